-- m * 2 ^ (a - l) as a value of a format: when the format holds it, and its size in units. Assumes nothing.
use mathlib.Core.Path.{◌≡◌, refl, sym, ap, ◌∙◌, subst}
use mathlib.Core.Logic.{inl, inr}
use mathlib.Core.Bool.{Bool, false, not, ◌&&◌}
use Prim.Native.Nat.{ℕ, suc, ◌+◌, ◌-◌, ◌*◌, ◌%◌, ◌^◌, ◌≤◌, ◌<◌}
use native.Mathlib.Nat.{le_trans, le_of_eq, lt_of_lt_of_le, lt_of_le_of_lt, one-mul, mul_assoc, mul_right_comm, mul-lt-mul_of_pos_right, lt_of_mul-lt-mul_right}
use native.Mathlib.Omega.{arith}
use lib.Dec.{T, leb, ltb, eqb, le→leb, lt→ltb, lit<, lit≤}
use lib.Pow.{pow-add, pow_pos, pow_mono, pow-lt}
use lib.IntN.{ℤ}
use lib.Ieee.{fin, Format, binary64, prec, emax, low, up, down, minus, fits, to_bits, of_bits, is_nan, nan_bits}
use lib.Ieee.Digits.{minus_val}
use lib.Ieee.Exact.{HasValue}
use lib.Ieee.Fits.{and_i, eq→eqb, down_pos}
use Rattle.ieee.proofs.Units.{bits_of_finite, no_nan-bits, read_back}
use Rattle.exponential.proofs.Integers.{below_or_on, minus-le, minus-lt}

-- ---- in units of 2 ^ -c
pub value_at : (s : Bool) (m a l j c n : ℕ) → l + j ≡ c → m * 2 ^ (a + j) ≡ n → HasValue (fin s m (minus a l)) s n (2 ^ c)
value_at s m a l j c n e h =
    let U = up (minus a l) in
    let D = down (minus a l) in
    let J = 2 ^ j in (
      refl,
      ap (λ (x : ℕ). m * U * 2 ^ x) (sym e)
          ∙ ap (λ (x : ℕ). m * U * x) (pow-add 2 l j)
          ∙ sym (mul_assoc (m * U) (2 ^ l) J)
          ∙ ap (λ (x : ℕ). x * J) (minus_val m a l)
          ∙ mul_right_comm (m * 2 ^ a) D J
          ∙ ap (λ (x : ℕ). x * D) (mul_assoc m (2 ^ a) J ∙ ap (λ (x : ℕ). m * x) (sym (pow-add 2 a j)) ∙ h),
    )

-- ---- held by the format
down_le : (a l : ℕ) → down (minus a l) ≤ 2 ^ l
down_le a l =
    elim (below_or_on a l) [
      | inl h ↦ subst (λ (z : ℤ). down z ≤ 2 ^ l) (sym (minus-lt a l h)) (pow_mono (omega arith))
      | inr h ↦ subst (λ (z : ℤ). down z ≤ 2 ^ l) (sym (minus-le a l h)) (pow_pos l)
    ]

pub fits-at : (f : Format) (s : Bool) (m a l : ℕ) → suc m % 2 ≡ 1 → suc m < 2 ^ prec f → l ≤ low f → suc m * 2 ^ a < 2 ^ suc (emax f) * 2 ^ l → T (fits f (fin s (suc m) (minus a l)))
unfolding fits
fits-at f s m a l o p h r =
    let U = up (minus a l) in
    let D = down (minus a l) in
    let top : suc m * U < 2 ^ suc (emax f) * D =
    lt_of_mul-lt-mul_right (2 ^ l)
    (lt_of_le_of_lt (le_of_eq (minus_val (suc m) a l))
    (lt_of_lt_of_le (mul-lt-mul_of_pos_right r (down_pos (minus a l))) (le_of_eq (mul_right_comm (2 ^ suc (emax f)) (2 ^ l) D)))) in
    let odd = eqb (suc m % 2) 1 in
    let few = ltb (suc m) (2 ^ prec f) in
    let fine = leb D (2 ^ low f) in
    and_i (odd && few && fine) (ltb (suc m * U) (2 ^ suc (emax f) * D))
    (and_i (odd && few) fine (and_i odd few (eq→eqb o) (lt→ltb (suc m) (2 ^ prec f) p)) (le→leb D (2 ^ low f) (le_trans (down_le a l) (pow_mono h))))
    (lt→ltb (suc m * U) (2 ^ suc (emax f) * D) top)

-- ---- 2 ^ (b - 1023), by the exponent b of its pattern
shifted : (b : ℕ) → 0 < b → b + 51 ≡ 52 + (b - 1)
shifted b h = omega arith

module _ (b : ℕ) (lo : 0 < b) (hi : b < 2047) where
  power-fits : T (fits binary64 (fin false 1 (minus b 1023)))
  power-fits = fits-at binary64 false 0 b 1023 refl (lit< tt) (lit≤ tt) (lt_of_le_of_lt (le_of_eq (one-mul (2 ^ b))) (lt_of_lt_of_le (pow-lt hi) (le_of_eq (pow-add 2 1024 1023))))

  power-bits : to_bits binary64 (fin false 1 (minus b 1023)) ≡ b * 2 ^ 52
  power-bits =
      bits_of_finite binary64 (fin false 1 (minus b 1023)) false (2 ^ 52) (b - 1) (lit≤ tt) (inl (lit≤ tt))
      (value_at false 1 b 1023 51 1074 (2 ^ 52 * 2 ^ (b - 1)) refl (one-mul (2 ^ (b + 51)) ∙ ap (λ (x : ℕ). 2 ^ x) (shifted b lo) ∙ pow-add 2 52 (b - 1)))
      ∙ omega arith

  pub power-is : of_bits binary64 (b * 2 ^ 52) ≡ fin false 1 (minus b 1023)
  power-is = read_back binary64 (fin false 1 (minus b 1023)) (b * 2 ^ 52) power-fits power-bits

  pub power-no_nan : T (not (nan_bits binary64 (b * 2 ^ 52)))
  power-no_nan = no_nan-bits binary64 (fin false 1 (minus b 1023)) (b * 2 ^ 52) power-fits (unfold is_nan in tt) power-bits
