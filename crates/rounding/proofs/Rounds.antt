-- The library's `round` and the root's `root_of` are rounded as the definition says, over either format. Assumes nothing.
use mathlib.Core.Path.{◌≡◌, sym, ap, ◌∙◌, subst}
use mathlib.Core.Logic.{◌⊎◌}
use Prim.Native.Nat.{ℕ, suc, ◌+◌, ◌-◌, ◌*◌, ◌/◌, ◌%◌, ◌^◌, ◌≤◌, ◌<◌, compare, Ordering}
use native.Mathlib.Nat.{le_trans, le_of_eq, le_of_lt, lt_of_lt_of_le, mul_comm, mul_assoc, mul_left_comm, mul-le-mul_right, mul-pos, div-mul-le_self, div-add-mod', div-div-eq-div-mul, div-lt_iff_lt-mul, le-div_iff_mul-le, lt-suc_self, suc-mul, add-mul}
use native.Mathlib.Omega.{arith}
use mathlib.Core.Bool.{Bool, false}
use lib.Pow.{pow-add, pow_pos}
use lib.Ieee.{Float, Format, prec, low, size, hid, round}
use lib.Ieee.Fits.{two, two-le_pos, kept-lt, round_is}
use Rattle.ieee.specs.Sqrt.{root_of}
use Rattle.ieee.proofs.HalfEven.{Cmp, cmp}
use Rattle.ieee.proofs.Isqrt.{square_le, square-double, isqrt_lo, isqrt_hi}
use Rattle.ieee.proofs.Roots.{whole, dropped, order, is-units}
use Rattle.rounding.specs.Meaning.{fraction, root, Rounded}
use Rattle.rounding.proofs.Numbers.{fraction_lawful, root_lawful}
use Rattle.rounding.proofs.Values.{kept_full}
use Rattle.rounding.proofs.Located.{Located}
use Rattle.rounding.proofs.LocatedRounded.{located_rounded}
use Rattle.rounding.proofs.Unique.{located_unique}

-- ---- the fraction
same_order : (o : Ordering) (a b c d : ℕ) → a ≡ b → c ≡ d → Cmp o b d → Cmp o a c
same_order o a b c d e f h = subst (λ (z : ℕ). Cmp o z c) (sym e) (subst (λ (z : ℕ). Cmp o b z) (sym f) h)

shifted : (o : Ordering) (c a b : ℕ) → Cmp o a b → Cmp o (c + a) (c + b)
shifted Ordering.lt c a b h = omega arith
shifted Ordering.eq c a b h = omega arith
shifted Ordering.gt c a b h = omega arith

module _ (f : Format) (num den : ℕ) (D : 0 < den) where
  abbrev n : ℕ
  n = num * 2 ^ low f

  abbrev k : ℕ
  k = size (n / den) - prec f

  abbrev u : ℕ
  u = den * 2 ^ k

  -- q * 2 ^ k * den, with the unit u
  by-unit : (q : ℕ) → q * 2 ^ k * den ≡ q * u
  by-unit q = mul_assoc q (2 ^ k) den ∙ ap (λ (z : ℕ). q * z) (mul_comm (2 ^ k) den)

  cut : n / den / 2 ^ k ≡ n / u
  cut = div-div-eq-div-mul n den (2 ^ k)

  -- twice the fraction and twice the middle, each less 2 * (n / u * u): so the rest decides
  twice_fraction : num * (2 * 2 ^ low f) ≡ 2 * (n / u * u) + n % u * 2
  twice_fraction = mul_left_comm num 2 (2 ^ low f) ∙ let e = div-add-mod' n u in omega arith

  twice_middle : (n / u * 2 ^ k + suc (n / u) * 2 ^ k) * den ≡ 2 * (n / u * u) + u
  twice_middle = add-mul (n / u * 2 ^ k) (suc (n / u) * 2 ^ k) den ∙ let a = by-unit (n / u) in let b = by-unit (suc (n / u)) in let c = suc-mul (n / u) u in omega arith

  pub fraction_located : Located f (fraction num den) (n / u) k (compare (n % u * 2) u)
  fraction_located = record {
    small = subst (λ (q : ℕ). q < 2 ^ prec f) cut (kept-lt (prec f) (n / den));
    full = subst (λ (q : ℕ). (hid f ≤ q) ⊎ (k ≡ 0)) cut (kept_full (prec f) (n / den) (two-le_pos (prec f) (two f)));
    least = le_trans (le_of_eq (by-unit (n / u))) (div-mul-le_self n u);
    most = le_trans (le_of_lt ((div-lt_iff_lt-mul (mul-pos D (pow_pos k))).0 (lt-suc_self (n / u)))) (le_of_eq (sym (by-unit (suc (n / u)))));
    middle = same_order (compare (n % u * 2) u) (num * (2 * 2 ^ low f)) (2 * (n / u * u) + n % u * 2) ((n / u * 2 ^ k + suc (n / u) * 2 ^ k) * den) (2 * (n / u * u) + u) twice_fraction twice_middle (shifted (compare (n % u * 2) u) (2 * (n / u * u)) (n % u * 2) u (cmp (n % u * 2) u));
  }

  pub round_rounded : (s : Bool) → Rounded f s (fraction num den) (round f s num den)
  round_rounded s = subst (Rounded f s (fraction num den)) (sym (round_is f s num den)) (located_rounded f (fraction num den) (fraction_lawful num den D) (n / u) k (compare (n % u * 2) u) fraction_located s)

  pub rounded_is_round : (s : Bool) (x : Float) → Rounded f s (fraction num den) x → x ≡ round f s num den
  rounded_is_round s x h = located_unique f (fraction num den) (fraction_lawful num den D) (n / u) k (compare (n % u * 2) u) fraction_located s x h ∙ sym (round_is f s num den)

-- ---- the root
module _ (f : Format) (num den : ℕ) (D : 0 < den) where
  -- the root squared, in units squared
  abbrev square : ℕ
  square = num * 2 ^ (low f + low f)

  abbrev p : ℕ
  p = dropped f num den

  abbrev q : ℕ
  q = whole f num den / 2 ^ p

  square-is : num * (2 ^ low f * 2 ^ low f) ≡ square
  square-is = ap (λ (z : ℕ). num * z) (sym (pow-add 2 (low f) (low f)))

  -- the squares of twice the root and of twice the middle
  twice_root : num * (2 * 2 ^ low f * (2 * 2 ^ low f)) ≡ 4 * square
  twice_root = ap (λ (z : ℕ). num * z) (square-double (2 ^ low f)) ∙ mul_left_comm num 4 (2 ^ low f * 2 ^ low f) ∙ ap (λ (z : ℕ). 4 * z) square-is

  twice_middle_root : q * 2 ^ p + suc q * 2 ^ p ≡ (2 * q + 1) * 2 ^ p
  twice_middle_root = sym (add-mul q (suc q) (2 ^ p)) ∙ ap (λ (z : ℕ). z * 2 ^ p) (omega arith)

  pub root_located : Located f (root num den) q p (order f num den)
  unfolding whole dropped order
  root_located = record {
    small = kept-lt (prec f) (whole f num den);
    full = kept_full (prec f) (whole f num den) (two-le_pos (prec f) (two f));
    least = le_trans (mul-le-mul_right den (square_le (div-mul-le_self (whole f num den) (2 ^ p)))) (le_trans ((le-div_iff_mul-le D).0 (isqrt_lo (square / den))) (le_of_eq (sym square-is)));
    most = le_trans (le_of_eq square-is) (le_of_lt (lt_of_lt_of_le ((div-lt_iff_lt-mul D).0 (isqrt_hi (square / den))) (mul-le-mul_right den (square_le ((div-lt_iff_lt-mul (pow_pos p)).0 (lt-suc_self q))))));
    middle = same_order (order f num den) (num * (2 * 2 ^ low f * (2 * 2 ^ low f))) (4 * square) ((q * 2 ^ p + suc q * 2 ^ p) * (q * 2 ^ p + suc q * 2 ^ p) * den) ((2 * q + 1) * 2 ^ p * ((2 * q + 1) * 2 ^ p) * den) twice_root (ap (λ (z : ℕ). z * z * den) twice_middle_root) (cmp (4 * square) ((2 * q + 1) * 2 ^ p * ((2 * q + 1) * 2 ^ p) * den));
  }

  pub root_of_rounded : Rounded f false (root num den) (root_of f num den)
  root_of_rounded = subst (Rounded f false (root num den)) (sym (is-units f num den)) (located_rounded f (root num den) (root_lawful num den D) q p (order f num den) root_located false)

  pub rounded_is_root_of : (x : Float) → Rounded f false (root num den) x → x ≡ root_of f num den
  rounded_is_root_of x h = located_unique f (root num den) (root_lawful num den D) q p (order f num den) root_located false x h ∙ sym (is-units f num den)
