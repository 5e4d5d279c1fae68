-- How `halve` goes on: the equations that code follows, and the induction that laws follow.
use mathlib.Core.Path.{◌≡◌, refl, sym, subst}
use mathlib.Core.List.{List, [], ◌∷◌, ◌++◌}
use mathlib.Core.Bool.{Bool, true, false, cond, true≢false}
use Prim.Native.Nat.{ℕ, zero, suc, ◌+◌, ◌-◌, ◌^◌, ◌<◌}
use native.Mathlib.Nat.{two-pow-succ}
use native.Mathlib.Numerals.{sub-one}
use native.Mathlib.Omega.{arith}
use Rattle.conic.specs.declared.Conic.{Conic}
use Rattle.conic.specs.Conic.{Halves, flat_of, split_of}
use Rattle.conic.specs.Halving.{Piece, piece_of, is_one_quad, halve, word_of}

-- no halving left
pub halve-none : (n : ℕ) (c : Conic) (start : ℕ) → n ≡ 0 → halve n c start ≡ piece_of c start (2 ^ n) ∷ []
unfolding halve
halve-none n c start e = subst (λ (k : ℕ). halve k c start ≡ piece_of c start (2 ^ k) ∷ []) (sym e) refl

-- flat enough
pub halve_flat : (n : ℕ) (c : Conic) (start : ℕ) → flat_of c ≡ true → halve n c start ≡ piece_of c start (2 ^ n) ∷ []
unfolding halve
halve_flat zero c start e = refl
halve_flat (suc n) c start e = rw e

-- split, with the halves that the code has
pub halve-split : (n : ℕ) (c : Conic) (h : Halves) (start : ℕ) → (n ≡ 0 → ⊥) → flat_of c ≡ false → h ≡ split_of c
    → halve n c start ≡ halve (n - 1) h.left start ++ halve (n - 1) h.right (start + 2 ^ (n - 1))
unfolding halve
halve-split zero c h start z e q = absurd (z refl)
halve-split (suc n) c h start z e q = rw (e, sub-one (suc n), q)

-- the same by the one test of the code
pub halve_one : (n : ℕ) (c : Conic) (start : ℕ) → is_one_quad n c ≡ true → halve n c start ≡ piece_of c start (2 ^ n) ∷ []
unfolding is_one_quad
halve_one zero c start e = halve-none zero c start refl
halve_one (suc n) c start e = halve_flat (suc n) c start e

pub halve_two : (n : ℕ) (c : Conic) (h : Halves) (start : ℕ) → is_one_quad n c ≡ false → h ≡ split_of c → halve n c start ≡ halve (n - 1) h.left start ++ halve (n - 1) h.right (start + 2 ^ (n - 1))
unfolding is_one_quad
halve_two zero c h start e q = absurd (true≢false e)
halve_two (suc n) c h start e q = halve-split (suc n) c h start (λ z. omega (arith, z)) e q

-- only what may be halved is split
pub split_some : (n : ℕ) (c : Conic) → is_one_quad n c ≡ false → 0 < n
unfolding is_one_quad
split_some zero c e = absurd (true≢false e)
split_some (suc n) c e = omega arith

-- a half has half the span
pub half-span : (n : ℕ) → (n ≡ 0 → ⊥) → 2 ^ n ≡ 2 ^ (n - 1) + 2 ^ (n - 1)
half-span zero z = absurd (z refl)
half-span (suc n) z = rw (sub-one (suc n)) (two-pow-succ n)

choose : (P : ℕ → Conic → ℕ → List Piece → Type 0) {n start : ℕ} {c : Conic} {one both : List Piece} (f : Bool) → P n c start one → P n c start both → P n c start (cond f one both)
choose P true p q = p
choose P false p q = q

-- what holds of one piece, and of both halves together wherever it holds of each, holds of what is left
pub halve_ind : (P : ℕ → Conic → ℕ → List Piece → Type 0)
    → ((n : ℕ) (c : Conic) (start : ℕ) → P n c start (piece_of c start (2 ^ n) ∷ []))
    → ((n : ℕ) (c : Conic) (start : ℕ) (l r : List Piece) → P n (split_of c).left start l → P n (split_of c).right (start + 2 ^ n) r → P (suc n) c start (l ++ r))
    → (n : ℕ) (c : Conic) (start : ℕ) → P n c start (halve n c start)
unfolding halve
halve_ind P one both zero c start = one zero c start
halve_ind P one both (suc n) c start =
    choose P (flat_of c) (one (suc n) c start) (both n c start (halve n (split_of c).left start) (halve n (split_of c).right (start + 2 ^ n)) (halve_ind P one both n (split_of c).left start) (halve_ind P one both n (split_of c).right (start + 2 ^ n)))

pub word_append : (xs ys : List Piece) → word_of (xs ++ ys) ≡ word_of xs + word_of ys
unfolding word_of
word_append [] ys = omega arith
word_append (x ∷ xs) ys = let h = word_append xs ys in omega arith
