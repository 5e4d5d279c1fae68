-- The largest finite value of a format, and the limit half a unit of its last digit above, in units of the format's smallest value. Assumes nothing.
use mathlib.Core.Path.{◌≡◌, sym, ap, ◌∙◌}
use mathlib.Core.Logic.{◌⊎◌, inl, inr}
use Prim.Native.Nat.{ℕ, suc, ◌+◌, ◌-◌, ◌*◌, ◌^◌, ◌≤◌, ◌<◌}
use native.Mathlib.Nat.{le_trans, le_of_eq, lt_of_lt_of_le, not-le_of_lt, mul_comm, mul_assoc, mul_left_comm, mul_right_comm, mul-one, mul-le-mul_right, le_of_mul-le-mul_right, suc-mul, add-mul, sub-le}
use native.Mathlib.Omega.{arith}
use mathlib.Core.Bool.{false}
use lib.Dec.{T}
use lib.Pow.{pow-add, pow_pos, pow_mono}
use lib.Ieee.{Float, Format, prec, emax, low, units, fits, hid}
use lib.Ieee.Fits.{two, reach, two-le_pos}
use lib.Ieee.Exact.{HasValue, units_val}
use lib.Ieee.Positive.{num, den}
use lib.Ieee.Scale.{finite}
use Rattle.ieee.proofs.Units.{units-fits, twice_hid, overflow-is}
use Rattle.rounding.specs.Meaning.{last, largest}
use Rattle.rounding.proofs.Values.{in_units, units_under, gap, rescaled}

-- the unit of the last digit of the largest value
abbrev pub unit : Format → ℕ
unit f = 2 ^ (2 * emax f - 1)

last-is : (f : Format) → last f * 2 ^ low f ≡ unit f
last-is f = sym (pow-add 2 (suc (emax f) - prec f) (low f)) ∙ ap (λ (z : ℕ). 2 ^ z) (ends (prec f) (emax f) (two f) (reach f))
  where
    ends : (p e : ℕ) → 2 ≤ p → p ≤ suc e → suc e - p + (e + p - 2) ≡ 2 * e - 1
    ends p e a b = omega arith

largest-is : (f : Format) → largest f * 2 ^ low f ≡ (2 ^ prec f - 1) * unit f
largest-is f = mul_assoc (2 ^ prec f - 1) (last f) (2 ^ low f) ∙ ap (λ (z : ℕ). (2 ^ prec f - 1) * z) (last-is f)

-- twice the limit
abbrev pub limit : Format → ℕ
limit f = 2 * largest f + last f

pub limit_is : (f : Format) → limit f * 2 ^ low f ≡ 2 * ((2 ^ prec f - 1) * unit f) + unit f
limit_is f = add-mul (2 * largest f) (last f) (2 ^ low f) ∙ let a = largest-is f in let b = last-is f in let c = mul_assoc 2 (largest f) (2 ^ low f) in omega arith

pub limit_twice : (f : Format) → limit f * (2 * 2 ^ low f) ≡ (2 * ((2 ^ prec f - 1) * unit f) + unit f) * 2
limit_twice f = mul_left_comm (limit f) 2 (2 ^ low f) ∙ mul_comm 2 (limit f * 2 ^ low f) ∙ ap (λ (z : ℕ). z * 2) (limit_is f)

back : (f : Format) → suc (2 ^ prec f - 1) ≡ 2 ^ prec f
back f = let p = pow_pos (prec f) in omega arith

pub one_less : (f : Format) → (2 ^ prec f - 1) * unit f + unit f ≡ 2 ^ prec f * unit f
one_less f = sym (suc-mul (2 ^ prec f - 1) (unit f)) ∙ ap (λ (z : ℕ). z * unit f) (back f)

pub many : (f : Format) → 2 * unit f ≤ 2 ^ prec f * unit f
many f = mul-le-mul_right (unit f) (pow_mono {i = 1} {j = prec f} (two-le_pos (prec f) (two f)))

-- ---- `largest` is what it is called: a value of the format has it, and none is above it
pub largest-held : (f : Format) → (y : Float) × T (fits f y) × HasValue y false (largest f) 1
largest-held f =
    let q = 2 ^ prec f - 1 in
    let k = 2 * emax f - 1 in
    let y = units f false q k in (
      y,
      units-fits f false q k (sub-le (2 ^ prec f) 1),
      rescaled y false (q * 2 ^ k) (2 ^ low f) (largest f) 1 (pow_pos (low f)) (mul-one (q * 2 ^ k) ∙ sym (largest-is f)) (units_val f false q k (lt_of_lt_of_le (let a = one_less f in let p = pow_pos (2 * emax f - 1) in omega arith) (le_of_eq (sym (overflow-is f))))),
    )

pub largest-above : (f : Format) (y : Float) → T (fits f y) → T (finite y) → num y ≤ largest f * den y
largest-above f y h t = go (gap (prec f) q (2 * emax f - 1) d.0 d.1 d.2 (two-le_pos (prec f) (two f)) (inl digits))
  where
    d : (p : ℕ) × (j : ℕ) × (p < 2 ^ prec f) × (num y * 2 ^ low f ≡ p * 2 ^ j * den y)
    d = in_units f y h t

    q : ℕ
    q = 2 ^ prec f - 1

    digits : hid f ≤ 2 ^ prec f - 1
    digits = let a = twice_hid f in let b = pow_pos (prec f - 1) in omega arith

    go : (d.0 * 2 ^ d.1 ≤ q * unit f) ⊎ (suc q * unit f ≤ d.0 * 2 ^ d.1) → num y ≤ largest f * den y
    go (inl g) =
        le_of_mul-le-mul_right
        (le_trans (le_of_eq d.3) (le_trans (mul-le-mul_right (den y) g) (le_of_eq (ap (λ (z : ℕ). z * den y) (sym (largest-is f)) ∙ mul_right_comm (largest f) (2 ^ low f) (den y)))))
        (pow_pos (low f))
    go (inr g) = absurd (not-le_of_lt (units_under f y (d.0 * 2 ^ d.1) h t d.3) (le_trans (le_of_eq (overflow-is f ∙ ap (λ (z : ℕ). z * unit f) (sym (back f)))) g))
