-- The width changes and the square root meet IEEE 754: `meets` proves the list of specs/Meets.antt. Assumes nothing.
use mathlib.Core.Path.{◌≡◌, refl, sym, ap, ◌∙◌}
use Prim.Native.Nat.{ℕ, zero, suc, ◌+◌, ◌-◌, ◌*◌, ◌^◌, ◌≤◌, ◌<◌}
use native.Mathlib.Nat.{le_trans, le_of_eq, lt_of_lt_of_le, mul_right_comm, mul-le-mul, mul-le-mul_left, mul-le-mul_right, mul-lt-mul_of_pos_right, suc-mul, zero-mul}
use native.Mathlib.Omega.{arith}
use mathlib.Core.Bool.{Bool, true, false}
use lib.IntN.{ℤ, pos}
use lib.Dec.{T, ltb→lt}
use lib.Pow.{pow-add, pow_pos, pow_mono}
use lib.Ieee.{Float, nan, inf, fin, Format, binary32, prec, emax, low, up, down, round, fits, lt}
use lib.Ieee.Fits.{two, reach, down_pos, fits_widens, round-fits}
use lib.Ieee.Exact.{round_exact}
use lib.Ieee.Positive.{num, den, positive, positive-finite}
use lib.Ieee.Scale.{finite}
use Rattle.std.specs.Float.{round_to_format}
use Rattle.ieee.specs.Basic.{widen_of}
use Rattle.ieee.specs.Narrow.{narrow_of}
use Rattle.ieee.specs.Sqrt.{sqrt_of}
use Rattle.rounding.specs.Meaning.{fraction, root, below, sign, last, largest, Rounded}
use Rattle.rounding.specs.Meets.{OperationsMeetIeee754}
use Rattle.rounding.proofs.Distance.{distance_of_closer, closer_of_distance}
use Rattle.rounding.proofs.Limit.{largest-held, largest-above}
use Rattle.rounding.proofs.Values.{in_units, fits_under, units_under, one_value, rescaled}
use Rattle.rounding.proofs.Rounds.{round_rounded, rounded_is_round, root_of_rounded, rounded_is_root_of}

-- ---- narrowing
narrow_rounded : (x : Float) → T (finite x) → Rounded binary32 (sign x) (fraction (num x) (den x)) (narrow_of x)
unfolding narrow_of round_to_format
narrow_rounded nan t = absurd t
narrow_rounded (inf s) t = absurd t
narrow_rounded (fin s m e) t = round_rounded binary32 (m * up e) (down e) (down_pos e) s

-- ---- a value of the format is rounded to itself
pub round_own : (f : Format) (s : Bool) (m : ℕ) (e : ℤ) → T (fits f (fin s m e)) → round f s (m * up e) (down e) ≡ fin s m e
round_own f s m e h =
    let d = in_units f (fin s m e) h tt in
    let w = d.0 * 2 ^ d.1 in
    one_value f (round f s (m * up e) (down e)) (fin s m e) s w (round-fits f s (m * up e) (down e)) h
    (rescaled (round f s (m * up e) (down e)) s (m * up e) (down e) w (2 ^ low f) (down_pos e) d.3
    (round_exact f s (m * up e) (down e) d.0 d.1 (down_pos e) d.2 (units_under f (fin s m e) w h tt d.3) d.3))
    (refl, d.3)

widen_narrow : (x : Float) → T (fits binary32 x) → narrow_of (widen_of x) ≡ x
unfolding narrow_of round_to_format widen_of
widen_narrow nan h = refl
widen_narrow (inf s) h = refl
widen_narrow (fin s m e) h = round_own binary32 s m e h

-- ---- the square root
sqrt_rounded : (f : Format) (x : Float) → T (positive x) → Rounded f false (root (num x) (den x)) (sqrt_of f x)
unfolding sqrt_of
sqrt_rounded f nan p = absurd p
sqrt_rounded f (inf s) p = absurd p
sqrt_rounded f (fin true m e) p = absurd p
sqrt_rounded f (fin false zero e) p = absurd p
sqrt_rounded f (fin false (suc m) e) p = root_of_rounded f (suc m * up e) (down e) (down_pos e)

-- the root of what is below 2 ^ (emax + 1) is below that too, and by far
root_below : (f : Format) (n d : ℕ) → n < 2 ^ suc (emax f) * d → below (root n d) (2 * largest f + last f) 2
root_below f n d h =
    let w = 2 ^ suc (emax f) in
    let m = 2 * largest f + last f in
    let a : w ≤ m =
    le_trans (le_of_eq (ap (λ (z : ℕ). 2 ^ z) (ends (prec f) (emax f) (reach f)) ∙ pow-add 2 (prec f) (suc (emax f) - prec f)))
    (let p = pow_pos (prec f) in let e : suc (2 ^ prec f - 1) ≡ 2 ^ prec f = omega arith in let g = ap (λ (z : ℕ). z * last f) (sym e) ∙ suc-mul (2 ^ prec f - 1) (last f) in omega arith) in
    let b : w * 4 ≤ m * m = le_trans (mul-le-mul_left w (pow_mono {i = 2} {j = suc (emax f)} (two_digits (prec f) (emax f) (two f) (reach f)))) (mul-le-mul a a) in
    lt_of_lt_of_le (mul-lt-mul_of_pos_right h (pow_pos 2)) (le_trans (le_of_eq (mul_right_comm w d 4)) (mul-le-mul_right d b))
  where
    ends : (p e : ℕ) → p ≤ suc e → suc e ≡ p + (suc e - p)
    ends p e g = omega arith

    two_digits : (p e : ℕ) → 2 ≤ p → p ≤ suc e → 2 ≤ suc e
    two_digits p e a b = omega arith

sqrt_below_zero : (f : Format) (x : Float) → T (lt x (fin false 0 (pos 0))) → sqrt_of f x ≡ nan
unfolding sqrt_of lt
sqrt_below_zero f nan t = absurd t
sqrt_below_zero f (inf true) t = refl
sqrt_below_zero f (inf false) t = absurd t
sqrt_below_zero f (fin true zero e) t = absurd (let a = ltb→lt 0 (0 * up e * 1 + 0 * down e) t in let b = zero-mul (up e) in let c = zero-mul (down e) in omega arith)
sqrt_below_zero f (fin true (suc m) e) t = refl
sqrt_below_zero f (fin false m e) t = absurd (let a = ltb→lt (m * up e * 1) (0 * down e) t in let c = zero-mul (down e) in omega arith)

pub meets : OperationsMeetIeee754
meets = record {
  closer_distance = λ n d D p a q b c. (distance_of_closer n d a b c D p q, closer_of_distance n d a b c D p q);
  largest-held = largest-held;
  largest-above = largest-above;
  round_rounded = λ f s n d D. round_rounded f n d D s;
  rounded_is_round = λ f s n d x D. rounded_is_round f n d D s x;
  root_rounded = root_of_rounded;
  rounded_is_root = λ f n d x D. rounded_is_root_of f n d D x;
  narrow_rounded = narrow_rounded;
  narrow_infinity = λ s. unfold narrow_of round_to_format in refl;
  narrow_nan = unfold narrow_of round_to_format in refl;
  widen_same = λ x. unfold widen_of in refl;
  widen_fits = λ x h. unfold widen_of in fits_widens x h;
  widen_narrow = widen_narrow;
  sqrt_rounded = sqrt_rounded;
  sqrt_finite = λ f x h p. (sqrt_rounded f x p).bounded (root_below f (num x) (den x) (fits_under f x h (positive-finite x p)));
  sqrt_zero = λ f s. unfold sqrt_of in refl;
  sqrt_below_zero = sqrt_below_zero;
  sqrt_infinity = λ f. unfold sqrt_of in refl;
  sqrt_nan = λ f. unfold sqrt_of in refl;
}
