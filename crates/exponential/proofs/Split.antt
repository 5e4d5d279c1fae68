-- u = f * 2 ^ e for a positive u of binary32: the pattern of u in binary64 has f's digits, and its exponent is e + 1023. Assumes nothing.
use mathlib.Core.Path.{◌≡◌, refl, sym, ap, ap₂, ◌∙◌, subst}
use mathlib.Core.Logic.{inl, inr}
use mathlib.Core.Bool.{Bool, true, false, not, ◌&&◌}
use Prim.Native.Nat.{ℕ, zero, suc, ◌+◌, ◌-◌, ◌*◌, ◌/◌, ◌%◌, ◌^◌, ◌≤◌, ◌<◌, zero-le}
use native.Mathlib.Nat.{le_trans, le_of_eq, le_of_lt, lt_of_lt_of_le, lt_of_not-le, not-le_of_lt, mul-one, one-mul, mul_assoc, mul_right_comm, mul-pos, mul-le-mul_left, mul-le-mul_right, mul-lt-mul_of_pos_right, le_of_mul-le-mul_right, eq_of_mul-eq-mul_right, zero-lt-suc, zero-add, pow-suc}
use native.Mathlib.Omega.{arith}
use lib.Dec.{T, leb, ltb, eqb, leb→le, ltb→lt, eqb→eq, lt→ltb, lit≤, not_T}
use lib.Pow.{pow-add, pow_pos, pow_mono, pow-lt}
use lib.IntN.{ℤ, pos, negsuc, ◌+ℤ◌}
use lib.Ieee.{Float, nan, inf, fin, binary32, binary64, up, down, div, round, le, minus, size, fits, of_int, to_bits, of_bits, is_nan, nan_bits}
use lib.Ieee.Bits.{is_true, is_false}
use lib.Ieee.Digits.{size-lt, size-le, size_reaches}
use lib.Ieee.Exact.{HasValue, round_exact}
use lib.Ieee.Fits.{and_l, and_r, div-fits, down_pos}
use lib.Ieee.Order.{le_of_values}
use lib.Ieee.Positive.{positive, values_of_le}
use Rattle.ieee.proofs.Units.{bits_of_finite, no_nan-bits, read_back, round-no_nan}
use Rattle.ieee.specs.Binary64.{two}
use Rattle.exponential.specs.Constants.{one_and_half}
use Rattle.exponential.specs.Logarithm.{fraction_of, exponent_of, ln_at, ln_of}
use Rattle.exponential.proofs.Integers.{below_or_on, minus-le, minus-lt, minus_same, minus-add}
use Rattle.exponential.proofs.Values.{value_at, fits-at}

-- ---- an exponent of binary32, as a difference of two small numbers
record Apart (e : ℤ) : Type 0 where
  a : ℕ
  l : ℕ
  is : e ≡ minus a l
  a_lt : a < 128
  l_le : l ≤ 149

apart : (m : ℕ) (e : ℤ) → 0 < m → down e ≤ 2 ^ 149 → m * up e < 2 ^ 128 * down e → Apart e
apart m (pos i) p d u = record {
  a = i;
  l = 0;
  is = sym (minus-le i 0 zero-le ∙ ap pos {y = i} (omega arith));
  a_lt = lt_of_not-le (λ (g : 128 ≤ i). not-le_of_lt (subst (λ (x : ℕ). m * 2 ^ i < x) (mul-one (2 ^ 128)) u) (le_trans (pow_mono g) (subst (λ (x : ℕ). x ≤ m * 2 ^ i) (one-mul (2 ^ i)) (mul-le-mul_right (2 ^ i) p))));
  l_le = zero-le;
}
apart m (negsuc i) p d u = record {
  a = 0;
  l = suc i;
  is = sym (minus-lt 0 (suc i) (zero-lt-suc i) ∙ ap negsuc {y = i} (omega arith));
  a_lt = zero-lt-suc 127;
  l_le = lt_of_not-le (λ (g : 149 ≤ i). not-le_of_lt (pow-lt {i = 149} {j = suc i} (omega arith)) d);
}

-- ---- the digits of m = suc n, brought to 53
record Digits (m : ℕ) : Type 0 where
  size_lo : 0 < size m
  size_hi : size m ≤ 24
  lo : 2 ^ 52 ≤ m * 2 ^ (53 - size m)
  hi : m * 2 ^ (53 - size m) < 2 ^ 53

digits : (m : ℕ) → 0 < m → m < 2 ^ 24 → Digits m
digits m p h =
    let s = size m in
    let s-lo : 0 < s = lt_of_not-le (λ (g : s ≤ 0). not-le_of_lt (lt_of_lt_of_le (size-lt m) (pow_mono g)) p) in
    let s-hi : s ≤ 24 = size-le m 24 h in
    let J = 2 ^ (53 - s) in
    let below : s - 1 + (53 - s) ≡ 52 = omega arith in
    let above : s + (53 - s) ≡ 53 = omega arith in
    record {
      size_lo = s-lo;
      size_hi = s-hi;
      lo = le_trans (le_of_eq (sym (ap (λ (x : ℕ). 2 ^ x) below) ∙ pow-add 2 (s - 1) (53 - s))) (mul-le-mul_right J (size_reaches m (s - 1) (omega arith)));
      hi = lt_of_lt_of_le (mul-lt-mul_of_pos_right (size-lt m) (pow_pos (53 - s))) (le_of_eq (sym (pow-add 2 s (53 - s)) ∙ ap (λ (x : ℕ). 2 ^ x) above));
    }

-- m * 2 ^ t is m * 2 ^ (53 - s) times 2 ^ k
regroup : (m s t k : ℕ) → t ≡ 53 - s + k → m * 2 ^ t ≡ m * 2 ^ (53 - s) * 2 ^ k
regroup m s t k e = ap (λ (x : ℕ). m * 2 ^ x) e ∙ ap (λ (x : ℕ). m * x) (pow-add 2 (53 - s) k) ∙ sym (mul_assoc m (2 ^ (53 - s)) (2 ^ k))

rescaled : (x : Float) (s : Bool) (a c n l : ℕ) → 0 < c → a * l ≡ n * c → HasValue x s a c → HasValue x s n l
rescaled nan s a c n l p h v = v
rescaled (inf t) s a c n l p h v = v
rescaled (fin t m e) s a c n l p h v = (
  v.0,
  eq_of_mul-eq-mul_right c p (m * up e * l) (n * down e)
      (mul_right_comm (m * up e) l c ∙ ap (λ (x : ℕ). x * l) v.1 ∙ mul_right_comm a (down e) l ∙ ap (λ (x : ℕ). x * down e) h ∙ mul_right_comm n c (down e)),
)

module _ (n : ℕ) (odd : suc n % 2 ≡ 1) (few : suc n < 2 ^ 24) where
  abbrev m : ℕ
  m = suc n

  abbrev s : ℕ
  s = size m

  -- the digits, and the exponent that f's pattern has for them
  abbrev pub q : ℕ
  q = m * 2 ^ (53 - s)

  d : Digits m
  d = digits m (zero-lt-suc n) few

  pub q_lo : 2 ^ 52 ≤ q
  q_lo = d.lo

  pub q_hi : q < 2 ^ 53
  q_hi = d.hi

  abbrev pub frac : Float
  frac = fin false m (minus 1 s)

  -- ---- f
  pub frac_fits : T (fits binary64 frac)
  frac_fits =
      fits-at binary64 false n 1 s odd (lt_of_lt_of_le few (lit≤ tt)) (le_trans d.size_hi (lit≤ tt))
      (lt_of_lt_of_le (mul-lt-mul_of_pos_right few (zero-lt-suc 1)) (le_trans (lit≤ tt) (mul-le-mul_left (2 ^ 1024) (pow_pos s))))

  frac_value : HasValue frac false (q * 2 ^ 1022) (2 ^ 1074)
  frac_value =
      let h = d.size_hi in
      value_at false m 1 s (1074 - s) 1074 (q * 2 ^ 1022) (omega arith) (regroup m s (1 + (1074 - s)) 1022 (omega arith))

  pub frac_bits : to_bits binary64 frac ≡ 1022 * 2 ^ 52 + q
  frac_bits = bits_of_finite binary64 frac false q 1022 (le_of_lt q_hi) (inl q_lo) frac_value ∙ zero-add (1022 * 2 ^ 52 + q)

  -- ---- f / 2
  half_is : div binary64 frac two ≡ round binary64 false (m * up (minus 1 s) * 1) (2 * down (minus 1 s))
  unfolding div of_bits
  half_is = refl

  half-size : m * up (minus 1 s) * 1 * 2 ^ 1074 ≡ q * 2 ^ 1021 * (2 * down (minus 1 s))
  half-size =
      ap (λ (x : ℕ). x * 2 ^ 1074) (mul-one (m * up (minus 1 s)))
      ∙ frac_value.1
      ∙ ap (λ (x : ℕ). q * x * down (minus 1 s)) (pow-suc 2 1021)
      ∙ ap (λ (x : ℕ). x * down (minus 1 s)) (sym (mul_assoc q (2 ^ 1021) 2))
      ∙ mul_assoc (q * 2 ^ 1021) 2 (down (minus 1 s))

  half_value : HasValue (div binary64 frac two) false (q * 2 ^ 1021) (2 ^ 1074)
  half_value =
      let D = 2 * down (minus 1 s) in
      let p : 0 < D = mul-pos (zero-lt-suc 1) (down_pos (minus 1 s)) in
      subst (λ (x : Float). HasValue x false (q * 2 ^ 1021) (2 ^ 1074)) (sym half_is)
      (rescaled (round binary64 false (m * up (minus 1 s) * 1) D) false (m * up (minus 1 s) * 1) D (q * 2 ^ 1021) (2 ^ 1074) p half-size
      (round_exact binary64 false (m * up (minus 1 s) * 1) D q 1021 p q_hi (lt_of_lt_of_le (mul-lt-mul_of_pos_right q_hi (pow_pos 1021)) (lit≤ tt)) half-size))

  pub half-bits : to_bits binary64 (div binary64 frac two) ≡ 1021 * 2 ^ 52 + q
  half-bits = bits_of_finite binary64 (div binary64 frac two) false q 1021 (le_of_lt q_hi) (inl q_lo) half_value ∙ zero-add (1021 * 2 ^ 52 + q)

  pub half-no_nan : T (not (is_nan (div binary64 frac two)))
  half-no_nan = subst (λ (x : Float). T (not (is_nan x))) (sym half_is) (round-no_nan binary64 false (m * up (minus 1 s) * 1) (2 * down (minus 1 s)))

  -- ---- f ≥ 1.5
  middle : HasValue one_and_half false (3 * 2 ^ 51 * 2 ^ 1022) (2 ^ 1074)
  unfolding of_bits
  middle = (refl, refl)

  pub test_high : 3 * 2 ^ 51 ≤ q → le one_and_half frac ≡ true
  test_high h = is_true (le one_and_half frac) (le_of_values one_and_half frac (3 * 2 ^ 51 * 2 ^ 1022) (2 ^ 1074) (q * 2 ^ 1022) (2 ^ 1074) (pow_pos 1074) (pow_pos 1074) middle frac_value (mul-le-mul_right (2 ^ 1074) (mul-le-mul_right (2 ^ 1022) h)))

  pub test_low : q < 3 * 2 ^ 51 → le one_and_half frac ≡ false
  test_low h = is_false (le one_and_half frac) (not_T (le one_and_half frac) (λ t. not-le_of_lt h (le_of_mul-le-mul_right (le_of_mul-le-mul_right (values_of_le one_and_half frac (3 * 2 ^ 51 * 2 ^ 1022) (2 ^ 1074) (q * 2 ^ 1022) (2 ^ 1074) (unfold of_bits in tt) (lt→ltb 0 m (zero-lt-suc n)) middle frac_value t) (pow_pos 1074)) (pow_pos 1022))))

-- ---- u, and the numbers that the code takes from its pattern
abbrev pub upper : ℕ → ℕ
upper b = b / 2 ^ 51 % 2

abbrev pub pattern : ℕ → ℕ
pattern b = b % 2 ^ 52 + (1023 - upper b) * 2 ^ 52

abbrev pub field : ℕ → ℕ
field b = b / 2 ^ 52 + upper b

pub record Numbers (u : Float) : Type 0 where
  pub ln : ln_of u ≡ ln_at (of_bits binary64 (pattern (to_bits binary64 u))) (of_int binary64 (minus (field (to_bits binary64 u)) 1023))
  pub no_nan : T (not (nan_bits binary64 (pattern (to_bits binary64 u))))
  pub small : field (to_bits binary64 u) < 4096

-- the pattern k * 2 ^ 52 + q, taken apart on either side of 1.5
pattern_low : (k q : ℕ) → 2 ^ 52 ≤ q → q < 3 * 2 ^ 51 → pattern (k * 2 ^ 52 + q) ≡ 1022 * 2 ^ 52 + q
pattern_low k q lo hi = omega arith

pattern_high : (k q : ℕ) → 3 * 2 ^ 51 ≤ q → q < 2 ^ 53 → pattern (k * 2 ^ 52 + q) ≡ 1021 * 2 ^ 52 + q
pattern_high k q lo hi = omega arith

field-low : (k q : ℕ) → 2 ^ 52 ≤ q → q < 3 * 2 ^ 51 → field (k * 2 ^ 52 + q) ≡ suc k
field-low k q lo hi = omega arith

field-high : (k q : ℕ) → 3 * 2 ^ 51 ≤ q → q < 2 ^ 53 → field (k * 2 ^ 52 + q) ≡ suc k + 1
field-high k q lo hi = omega arith

module _ (n : ℕ) (odd : suc n % 2 ≡ 1) (few : suc n < 2 ^ 24) (e : ℤ) (w : Apart e) where
  abbrev u : Float
  u = fin false (suc n) e

  abbrev t : ℕ
  t = size (suc n)

  z : Digits (suc n)
  z = digits (suc n) (zero-lt-suc n) few

  abbrev Q : ℕ
  Q = q n odd few

  -- the exponent of u's pattern, less 1
  abbrev k : ℕ
  k = w.a + (1074 - w.l) + t - 53

  k_is : w.a + (1074 - w.l) ≡ 53 - t + k
  k_is = omega (arith, w.l_le, z.size_hi, z.size_lo)

  u_value : HasValue u false (Q * 2 ^ k) (2 ^ 1074)
  u_value =
      subst (λ (x : ℤ). HasValue (fin false (suc n) x) false (Q * 2 ^ k) (2 ^ 1074)) (sym w.is)
      (value_at false (suc n) w.a w.l (1074 - w.l) 1074 (Q * 2 ^ k) (omega (arith, w.l_le)) (regroup (suc n) t (w.a + (1074 - w.l)) k k_is))

  u_bits : to_bits binary64 u ≡ k * 2 ^ 52 + Q
  u_bits = bits_of_finite binary64 u false Q k (le_of_lt (q_hi n odd few)) (inl (q_lo n odd few)) u_value ∙ zero-add (k * 2 ^ 52 + Q)

  exponent : exponent_of u ≡ minus (suc k) 1023
  unfolding exponent_of
  exponent =
      ap₂ (λ (x y : ℤ). x +ℤ y) w.is (minus-le t 1 z.size_lo)
      ∙ minus-add w.a w.l (t - 1)
      ∙ minus_same (w.a + (t - 1)) w.l (suc k) 1023 (omega (arith, k_is, w.l_le, z.size_hi, z.size_lo))

  k_small : k < 2000
  k_small = omega (arith, w.a_lt, z.size_hi)

  -- by a value x whose pattern the code makes, and the exponent j that it finds
  made : (x : Float) (p j : ℕ) → T (fits binary64 x) → T (not (is_nan x)) → to_bits binary64 x ≡ p → pattern (k * 2 ^ 52 + Q) ≡ p → field (k * 2 ^ 52 + Q) ≡ j → j < 4096 → ln_of u ≡ ln_at x (of_int binary64 (minus j 1023)) → Numbers u
  made x p j F N b pat fld lt ln =
      let pat' : pattern (to_bits binary64 u) ≡ p = ap pattern u_bits ∙ pat in
      let fld' : field (to_bits binary64 u) ≡ j = ap field u_bits ∙ fld in
      record {
        ln = ln ∙ ap₂ (λ (y : Float) (i : ℕ). ln_at y (of_int binary64 (minus i 1023))) (sym (read_back binary64 x p F b) ∙ ap (of_bits binary64) (sym pat')) (sym fld');
        no_nan = subst (λ (y : ℕ). T (not (nan_bits binary64 y))) (sym pat') (no_nan-bits binary64 x p F N b);
        small = subst (λ (i : ℕ). i < 4096) (sym fld') lt;
      }

  low_ln : Q < 3 * 2 ^ 51 → ln_of u ≡ ln_at (frac n odd few) (of_int binary64 (minus (suc k) 1023))
  unfolding ln_of fraction_of
  low_ln h = rw (test_low n odd few h, exponent)

  high_ln : 3 * 2 ^ 51 ≤ Q → ln_of u ≡ ln_at (div binary64 (frac n odd few) two) (of_int binary64 (minus (suc k + 1) 1023))
  unfolding ln_of fraction_of
  high_ln h = rw (test_high n odd few h, exponent, minus-add (suc k) 1023 1)

  numbers : Numbers u
  numbers =
      elim (below_or_on Q (3 * 2 ^ 51)) [
        | inl h ↦ made (frac n odd few) (1022 * 2 ^ 52 + Q) (suc k) (frac_fits n odd few) (unfold is_nan in tt) (frac_bits n odd few) (pattern_low k Q (q_lo n odd few) h) (field-low k Q (q_lo n odd few) h) (omega (arith, k_small)) (low_ln h)
        | inr h ↦ made (div binary64 (frac n odd few) two) (1021 * 2 ^ 52 + Q) (suc k + 1) (div-fits binary64 (frac n odd few) two) (half-no_nan n odd few) (half-bits n odd few) (pattern_high k Q h (q_hi n odd few)) (field-high k Q h (q_hi n odd few)) (omega (arith, k_small)) (high_ln h)
      ]

-- ---- in all
pub split : (u : Float) → T (fits binary32 u) → T (positive u) → Numbers u
split nan F p = absurd p
split (inf s) F p = absurd p
split (fin true m e) F p = absurd p
split (fin false zero e) F p = absurd p
split (fin false (suc n) e) F p = unfold fits in
    let odd = eqb (suc n % 2) 1 in
    let few = ltb (suc n) (2 ^ 24) in
    let fine = leb (down e) (2 ^ 149) in
    let under = ltb (suc n * up e) (2 ^ 128 * down e) in
    let abc = and_l (odd && few && fine) under F in
    let ab = and_l (odd && few) fine abc in
    numbers n (eqb→eq (suc n % 2) 1 (and_l odd few ab)) (ltb→lt (suc n) (2 ^ 24) (and_r odd few ab)) e
    (apart (suc n) e (zero-lt-suc n) (leb→le (down e) (2 ^ 149) (and_r (odd && few) fine abc)) (ltb→lt (suc n * up e) (2 ^ 128 * down e) (and_r (odd && few && fine) under F)))
