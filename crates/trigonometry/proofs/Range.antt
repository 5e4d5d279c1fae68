-- -8 ≤ t ≤ 8, by the code's two comparisons: t is no NaN, and its magnitude is not over 8. Assumes nothing.
use mathlib.Core.Path.{◌≡◌, refl, sym, ap, ◌∙◌}
use mathlib.Core.Bool.{Bool, true, false, not, ◌&&◌, ◌||◌, true≢false, false≢true}
use Prim.Native.Nat.{ℕ, ◌+◌, ◌*◌, ◌<◌}
use native.Mathlib.Omega.{arith}
use borrow.Author.Tests.{ltb-true, ltb-false, eqb-true, eqb-false, lt-ltb, eq-eqb}
use lib.Dec.{T, ltb, eqb}
use lib.IntN.{ℤ}
use lib.Ieee.{Float, nan, inf, fin, binary32, binary64, of_bits, neg, lt, le, ne, up, down, fits, is_nan}
use lib.Ieee.Fits.{down_pos, and_i, fits_widens}
use Rattle.ieee.specs.Basic.{abs_of}
use Rattle.trigonometry.specs.Constants.{eight}

-- a ≤ b, as `le` says it of two magnitudes, is that not b < a
at_most : (a b : ℕ) → (ltb a b || eqb a b && true) ≡ not (ltb b a)
at_most a b = go (ltb a b) (ltb b a) (eqb a b) refl refl refl
  where
    go : (x y z : Bool) → ltb a b ≡ x → ltb b a ≡ y → eqb a b ≡ z → (x || z && true) ≡ not y
    go true true z p q r = absurd (omega (arith, ltb-true a b p, ltb-true b a q))
    go true false z p q r = refl
    go false true true p q r = absurd (omega (arith, ltb-true b a q, eqb-true a b r))
    go false true false p q r = refl
    go false false true p q r = refl
    go false false false p q r = absurd (eqb-false a b r (omega (arith, ltb-false a b p, ltb-false b a q)))

-- the number 8, as the code has it
abbrev eight32 : Float
eight32 = of_bits binary32 0x4100_0000

-- the same with the equation the other way round, as `le` says it of two negative numbers
at_most' : (a b : ℕ) → (ltb a b || eqb b a && true) ≡ not (ltb b a)
at_most' a b = ap (λ (t : Bool). ltb a b || t && true) (turned (eqb b a) (eqb a b) refl refl) ∙ at_most a b
  where
    turned : (x y : Bool) → eqb b a ≡ x → eqb a b ≡ y → x ≡ y
    turned true true p q = refl
    turned true false p q = absurd (eqb-false a b q (sym (eqb-true b a p)))
    turned false true p q = absurd (eqb-false b a p (sym (eqb-true a b q)))
    turned false false p q = refl

-- a number does not differ from itself
no_nan : (s : Bool) (m : ℕ) (e : ℤ) → ne (fin s m e) (fin s m e) ≡ false
unfolding ne
no_nan true m e = rw (eq-eqb (m * up e * down e) (m * up e * down e) refl)
no_nan false m e = rw (eq-eqb (m * up e * down e) (m * up e * down e) refl)

some : (a d : ℕ) → 0 < d → ltb 0 (a + 8 * d) ≡ true
some a d h = lt-ltb 0 (a + 8 * d) (omega arith)

some' : (a d : ℕ) → 0 < d → ltb 0 (8 * d + a) ≡ true
some' a d h = lt-ltb 0 (8 * d + a) (omega arith)

pub low_end : (t : Float) → le (neg eight32) t ≡ true → le t eight32 ≡ not (ne t t || lt eight (abs_of t))
unfolding le lt neg of_bits abs_of
low_end nan h = unfold ne in refl
low_end (inf true) h = absurd (false≢true h)
low_end (inf false) h = unfold ne in refl
low_end (fin false m e) h = rw (no_nan false m e) (at_most (m * up e * 1) (8 * down e))
low_end (fin true m e) h = rw (no_nan true m e, some (m * up e * 1) (down e) (down_pos e)) (sym h ∙ at_most' (m * up e * 1) (8 * down e))

pub below_it : (t : Float) → le (neg eight32) t ≡ false → false ≡ not (ne t t || lt eight (abs_of t))
unfolding le lt neg of_bits abs_of
below_it nan h = unfold ne in refl
below_it (inf true) h = unfold ne in refl
below_it (inf false) h = absurd (true≢false h)
below_it (fin false m e) h = absurd (true≢false (rw (some' (m * up e * 1) (down e) (down_pos e)) at h))
below_it (fin true m e) h = rw (no_nan true m e) (sym h ∙ at_most' (m * up e * 1) (8 * down e))

-- a number that has a sine is one of the wider format
pub widened : (t : Float) → T (fits binary32 t) → not (ne t t || lt eight (abs_of t)) ≡ true → T (fits binary64 t && not (is_nan t))
widened t f h = and_i (fits binary64 t) (not (is_nan t)) (fits_widens t f) (number t h)
  where
    number : (t : Float) → not (ne t t || lt eight (abs_of t)) ≡ true → T (not (is_nan t))
    number nan h = unfold ne in absurd (false≢true h)
    number (inf s) h = unfold is_nan in tt
    number (fin s m e) h = unfold is_nan in tt
