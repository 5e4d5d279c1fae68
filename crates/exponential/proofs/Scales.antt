-- g and 2 ^ g, by g with BIAS more, for g the floor of a number within 1000 of 0. Assumes nothing.
use mathlib.Core.Path.{◌≡◌, sym, ap, ◌∙◌, subst}
use mathlib.Core.Bool.{false, not}
use Prim.Native.Nat.{ℕ, ◌+◌, ◌-◌, ◌*◌, ◌%◌, ◌^◌, ◌≤◌}
use native.Mathlib.Omega.{arith}
use lib.Dec.{T}
use lib.IntN.{ℤ, pos, ◌+ℤ◌}
use lib.Ieee.{Float, fin, binary64, of_bits, to_bits, of_int, sub, is_nan, nan_bits}
use Rattle.exponential.specs.Exponential.{floor_of, within}
use Rattle.exponential.proofs.Integers.{minus_same}
use Rattle.exponential.proofs.Wholes.{whole_value, sub-whole, whole-bits, whole-no_nan}
use Rattle.exponential.proofs.Floors.{W, bias, bias_value, at, place_is}
use Rattle.exponential.proofs.Values.{power-is, power-no_nan}

-- the last eleven digits of the pattern
abbrev pub last : Float → ℕ
last w = to_bits binary64 w % 2048

field : (p : ℕ) → W ≤ p + 1001 → p ≤ W + 1000 → (1074 * 2 ^ 52 + p) % 2048 ≡ p + 1023 - W
field p lo hi = omega arith

module _ (q : Float) (h : T (within q)) (w : Float) (e : w ≡ of_int binary64 (floor_of q +ℤ pos W)) where
  abbrev p : ℕ
  p = (at q h).place

  lo : W ≤ p + 1001
  lo = (at q h).low

  hi : p ≤ W + 1000
  hi = (at q h).high

  w_is : w ≡ of_int binary64 (pos p)
  w_is = e ∙ ap (of_int binary64) (place_is q h)

  pub whole_is : sub binary64 w bias ≡ of_int binary64 (floor_of q)
  whole_is =
      ap (λ (x : Float). sub binary64 x bias) w_is
      ∙ sub-whole binary64 (of_int binary64 (pos p)) bias p W (whole_value binary64 p (omega (arith, hi))) bias_value
      ∙ ap (of_int binary64) (sym (at q h).is)

  pub no_nan : T (not (is_nan w))
  no_nan = subst (λ (x : Float). T (not (is_nan x))) (sym w_is) (whole-no_nan binary64 p)

  last-is : last w ≡ p + 1023 - W
  last-is =
      ap last w_is
      ∙ ap (λ (x : ℕ). x % 2048) (whole-bits binary64 p (omega (arith, lo)) (omega (arith, hi)))
      ∙ field p lo hi

  pub scale_is : of_bits binary64 (last w * 2 ^ 52) ≡ fin false 1 (floor_of q)
  scale_is =
      ap (λ (x : ℕ). of_bits binary64 (x * 2 ^ 52)) last-is
      ∙ power-is (p + 1023 - W) (omega (arith, lo)) (omega (arith, hi))
      ∙ ap (λ (z : ℤ). fin false 1 z) (minus_same (p + 1023 - W) 1023 p W (omega (arith, lo)) ∙ sym (at q h).is)

  pub scale_no_nan : T (not (nan_bits binary64 (last w * 2 ^ 52)))
  scale_no_nan = subst (λ (x : ℕ). T (not (nan_bits binary64 (x * 2 ^ 52)))) (sym last-is) (power-no_nan (p + 1023 - W) (omega (arith, lo)) (omega (arith, hi)))
