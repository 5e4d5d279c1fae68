-- Pieces whose spans tile a stretch: how many there are, how large their word is, and where they start.
use mathlib.Core.Path.{◌≡◌, refl, sym, ap, subst, ◌∙◌}
use mathlib.Core.List.{List, [], ◌∷◌, ◌++◌}
use mathlib.Core.Bool.{false}
use Prim.Native.Nat.{ℕ, suc, ◌+◌, ◌*◌, ◌^◌, ◌≤◌, ◌<◌}
use native.Mathlib.Nat.{two-pow-succ, add-mul, one-mul, mul_assoc, zero-mul}
use native.Mathlib.Numerals.{add-one}
use native.Mathlib.Omega.{arith}
use lib.ListN.{length}
use lib.Pow.{pow_pos, pow_mono, pow-add}
use borrow.Author.Tests.{ne_eqb}
use Rattle.conic.specs.Halving.{Piece, word_of}
use Rattle.conic.specs.Spans.{Tiles, AllDyadic, starts_at}

pub tiles_append : (a b : ℕ) (d : ℕ) (xs ys : List Piece) → Tiles a xs b → Tiles b ys d → Tiles a (xs ++ ys) d
unfolding Tiles
tiles_append a b d [] ys h k = subst (λ (x : ℕ). Tiles x ys d) (sym h) k
tiles_append a b d (x ∷ xs) ys h k = (h.0, tiles_append (a + x.span.size) b d xs ys h.1 k)

-- no span is empty
unfoldable pub Sized : List Piece → Type 0
Sized [] = Unit {0}
Sized (p ∷ ps) = (0 < p.span.size) × Sized ps

pub sized_append : (xs ys : List Piece) → Sized xs → Sized ys → Sized (xs ++ ys)
unfolding Sized
sized_append [] ys h k = k
sized_append (x ∷ xs) ys h k = (h.0, sized_append xs ys h.1 k)

pub dyadic_append : (xs ys : List Piece) → AllDyadic xs → AllDyadic ys → AllDyadic (xs ++ ys)
unfolding AllDyadic
dyadic_append [] ys h k = k
dyadic_append (x ∷ xs) ys h k = (h.0, dyadic_append xs ys h.1 k)

pub tiles-length : (a b : ℕ) (ps : List Piece) → Tiles a ps b → Sized ps → a + length ps ≤ b
unfolding Tiles Sized
tiles-length a b [] t d = omega (arith, t)
tiles-length a b (p ∷ ps) t d = omega (arith, tiles-length (a + p.span.size) b ps t.1 d.1, d.0)

pub tiles-some : (a b : ℕ) (ps : List Piece) → Tiles a ps b → a < b → 1 ≤ length ps
unfolding Tiles
tiles-some a b [] t h = absurd (omega (arith, t))
tiles-some a b (p ∷ ps) t h = omega arith

-- the word of a stretch that is not empty is not 0
pub tiles-marked : (a b : ℕ) (ps : List Piece) → Tiles a ps b → a < b → 0 < word_of ps
unfolding Tiles word_of
tiles-marked a b [] t h = absurd (omega (arith, t))
tiles-marked a b (p ∷ ps) t h = omega (arith, pow_pos p.span.start)

-- the power of two past a span is at least twice that at its start
double : (a : ℕ) (p : Piece) → 0 < p.span.size → 2 ^ a + 2 ^ a ≤ 2 ^ (a + p.span.size)
double a p d =
    let h : 2 ^ (a + 1) ≤ 2 ^ (a + p.span.size) = pow_mono (omega (arith, d)) in
    let k : 2 ^ (a + 1) ≡ 2 ^ suc a = ap (λ (x : ℕ). 2 ^ x) (add-one a) in
    omega (arith, two-pow-succ a)

-- the word lies below the stretch's end
pub tiles-word : (a b : ℕ) (ps : List Piece) → Tiles a ps b → Sized ps → word_of ps + 2 ^ a ≤ 2 ^ b
unfolding Tiles Sized word_of
tiles-word a b [] t d = let e : 2 ^ a ≡ 2 ^ b = ap (λ (x : ℕ). 2 ^ x) t in omega arith
tiles-word a b (p ∷ ps) t d =
    let e : 2 ^ p.span.start ≡ 2 ^ a = ap (λ (x : ℕ). 2 ^ x) t.0 in
    omega (arith, tiles-word (a + p.span.size) b ps t.1 d.1, double a p d.0)

-- no piece starts before the stretch
pub none_before : (a b k : ℕ) (ps : List Piece) → Tiles a ps b → Sized ps → k < a → starts_at k ps ≡ false
unfolding Tiles Sized starts_at
none_before a b k [] t d h = refl
none_before a b k (p ∷ ps) t d h =
    rw (ne_eqb k p.span.start (λ e. omega (arith, t.0))) (none_before (a + p.span.size) b k ps t.1 d.1 (omega arith))

-- the word is a multiple of the power of two at the stretch's start
pub record Multiple (w n : ℕ) : Type 0 where
  pub times : ℕ
  pub is : w ≡ times * n

pub tiles-multiple : (a b : ℕ) (ps : List Piece) → Tiles a ps b → Sized ps → Multiple (word_of ps) (2 ^ a)
unfolding Tiles Sized word_of
tiles-multiple a b [] t d = record { times = 0; is = sym (zero-mul (2 ^ a)) }
tiles-multiple a b (p ∷ ps) t d =
    let s = p.span.size in
    let m = tiles-multiple (a + s) b ps t.1 d.1 in
    let e : 2 ^ p.span.start ≡ 2 ^ a = ap (λ (x : ℕ). 2 ^ x) t.0 in
    let f : 2 ^ (a + s) ≡ 2 ^ s * 2 ^ a = ap (λ (x : ℕ). 2 ^ x) (omega arith) ∙ pow-add 2 s a in
    let g : word_of ps ≡ m.times * 2 ^ s * 2 ^ a = m.is ∙ ap (λ (x : ℕ). m.times * x) f ∙ sym (mul_assoc m.times (2 ^ s) (2 ^ a)) in
    record { times = 1 + m.times * 2 ^ s; is = omega (arith, e, g, add-mul 1 (m.times * 2 ^ s) (2 ^ a), one-mul (2 ^ a)) }
