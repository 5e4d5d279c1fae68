-- Halving a whole conic leaves 1 to 64 quads whose spans tile it.
use mathlib.Core.Path.{◌≡◌, refl, sym, ap, subst, ◌∙◌}
use mathlib.Core.List.{List, [], ◌∷◌, ◌++◌}
use Prim.Native.Nat.{ℕ, suc, ◌+◌, ◌*◌, ◌^◌, ◌≤◌, ◌<◌}
use native.Mathlib.Nat.{two-pow-succ, pow-suc, mul_assoc, mul_comm, add-mul, one-mul}
use native.Mathlib.Omega.{arith}
use lib.ListN.{length}
use lib.Dec.{lit<}
use lib.Pow.{pow_mono, pow_pos}
use Rattle.geometry.specs.declared.Point.{Point}
use Rattle.conic.specs.declared.Conic.{Conic}
use Rattle.conic.specs.Conic.{split_of}
use Rattle.conic.specs.Halving.{Piece, halve, pieces_of, word_of}
use Rattle.conic.specs.Spans.{Tiles, AllDyadic, last_target, WholeConic}
use Rattle.conic.proofs.Halving.{halve_ind}
use Rattle.conic.proofs.Tiling.{Sized, sized_append, tiles_append, dyadic_append, tiles-length, tiles-some, tiles-marked, tiles-word}
use Rattle.conic.proofs.Bits.{marks}

halve-tiles : (n : ℕ) (c : Conic) (start : ℕ) → Tiles start (halve n c start) (start + 2 ^ n)
unfolding Tiles
halve-tiles =
    halve_ind (λ n c start ps. Tiles start ps (start + 2 ^ n)) (λ n c start. (refl, refl))
    (λ n c start l r hl hr. let e : start + 2 ^ n + 2 ^ n ≡ start + 2 ^ suc n = omega (arith, two-pow-succ n) in subst (λ (x : ℕ). Tiles start (l ++ r) x) e (tiles_append start (start + 2 ^ n) (start + 2 ^ n + 2 ^ n) l r hl hr))

-- a half starts at a multiple of its length where the whole does
halve-dyadic : (n : ℕ) (c : Conic) (start : ℕ) (m : ℕ) → start ≡ m * 2 ^ n → AllDyadic (halve n c start)
unfolding AllDyadic
halve-dyadic =
    halve_ind (λ n c start ps. (m : ℕ) → start ≡ m * 2 ^ n → AllDyadic ps)
    (λ n c start m e. (record { exponent = n; multiple = m; power = refl; aligned = e }, tt))
    (λ n c start l r hl hr m e. let f : start ≡ m * 2 * 2 ^ n = e ∙ ap (λ (x : ℕ). m * x) (pow-suc 2 n ∙ mul_comm (2 ^ n) 2) ∙ sym (mul_assoc m 2 (2 ^ n)) in
    dyadic_append l r (hl (m * 2) f) (hr (m * 2 + 1) (omega (arith, f, add-mul (m * 2) 1 (2 ^ n), one-mul (2 ^ n)))))

halve_sized : (n : ℕ) (c : Conic) (start : ℕ) → Sized (halve n c start)
unfolding Sized
halve_sized = halve_ind (λ n c start ps. Sized ps) (λ n c start. (pow_pos n, tt)) (λ n c start l r hl hr. sized_append l r hl hr)

-- at most as many pieces as the span is long
pub halve-few : (n : ℕ) (c : Conic) (start : ℕ) → length (halve n c start) ≤ 2 ^ n
halve-few n c start = omega (arith, tiles-length start (start + 2 ^ n) (halve n c start) (halve-tiles n c start) (halve_sized n c start))

-- the word lies below the span's end
pub halve-word : (n : ℕ) (c : Conic) (start : ℕ) → start + 2 ^ n ≤ 64 → word_of (halve n c start) < 2 ^ 64
halve-word n c start h =
    let k : 2 ^ (start + 2 ^ n) ≤ 2 ^ 64 = pow_mono h in
    omega (arith, tiles-word start (start + 2 ^ n) (halve n c start) (halve-tiles n c start) (halve_sized n c start), pow_pos start)

last_append : (p : Point) (xs ys : List Piece) → last_target p (xs ++ ys) ≡ last_target (last_target p xs) ys
unfolding last_target
last_append p [] ys = refl
last_append p (x ∷ xs) ys = last_append x.quad.to xs ys

-- it ends on its target, wherever it starts
pub halve-ends : (n : ℕ) (c : Conic) (start : ℕ) (p : Point) → last_target p (halve n c start) ≡ c.to
unfolding last_target split_of
halve-ends =
    halve_ind (λ n c start ps. (p : Point) → last_target p ps ≡ c.to) (λ n c start p. refl)
    (λ n c start l r hl hr p. last_append p l r ∙ hr (last_target p l))

pub whole-conic : (c : Conic) → WholeConic c (pieces_of c)
whole-conic c =
    let ps = pieces_of c in
    let t : Tiles 0 ps 64 = halve-tiles 6 c 0 in
    let z : Sized ps = halve_sized 6 c 0 in
    record {
      some = tiles-some 0 64 ps t (lit< tt);
      few = halve-few 6 c 0;
      tiles = t;
      dyadic = halve-dyadic 6 c 0 0 refl;
      marks = λ k. marks 0 64 k ps t z;
      marked = tiles-marked 0 64 ps t (lit< tt);
      ends = halve-ends 6 c 0 c.from;
    }
