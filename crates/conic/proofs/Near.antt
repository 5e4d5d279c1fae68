-- Two lengths compared without their roots: `far` and `near` are what the tests of `near_by_squares` say of `near_of`. Assumes nothing.
use mathlib.Core.Path.{◌≡◌, refl, sym, ap, ◌∙◌, subst}
use Prim.Native.Nat.{ℕ, zero, suc, ◌*◌, ◌^◌, ◌≤◌, ◌<◌, zero-le}
use native.Mathlib.Nat.{le_of_suc-le-suc, zero-lt-suc, le_trans, le_of_eq, le_of_lt, lt_of_not-le, lt_of_lt_of_le, lt_of_le_of_lt, not-le_of_lt, le_of_mul-le-mul_right, le-mul_of_pos_right, mul_comm, mul_assoc, mul_left_comm, mul-pos, mul-le-mul_left, mul-le-mul_right, zero-mul}
use native.Mathlib.Omega.{arith}
use mathlib.Core.Bool.{Bool, true, false, cond}
use lib.IntN.{ℤ, pos}
use lib.Dec.{T, ltb→lt, lt→ltb, not_T, lit<, lit≤}
use lib.Pow.{pow_pos}
use lib.Ieee.{Float, nan, inf, fin, binary32, up, down, round, of_bits, mul, lt, le, fits}
use lib.Ieee.Bits.{is_true, is_false}
use lib.Ieee.Fits.{up_pos, down_pos}
use lib.Ieee.Exact.{HasValue}
use lib.Ieee.Order.{le_of_values, round_mono}
use lib.Ieee.Positive.{num, den, positive, positive-finite, den_pos, own_value, first_pos, value→cross, value_pos, positive_of_value, values_of_le}
use Rattle.std.proofs.lemmas.Float as order
use Rattle.ieee.specs.Sqrt.{sqrt_of}
use Rattle.rounding.specs.Meaning.{fraction, root}
use Rattle.rounding.proofs.Values.{in_units, units_under}
use Rattle.rounding.proofs.Meets.{meets, round_own}
use Rattle.rounding.proofs.Relative.{Relative, sqrt_relative, scaled_relative}
use Rattle.conic.specs.Conic.{thousandth, near_of}
use Rattle.conic.proofs.Squares.{Unsigned}
use Rattle.conic.proofs.Margins.{no_room, below_scaled, above_scaled, small_root}

-- the errors' factor is next / hidden, and 1.0 is `unit` times the smallest value
abbrev hidden : ℕ
hidden = 2 ^ 23

abbrev next : ℕ
next = suc hidden

abbrev unit : ℕ
unit = 2 ^ 149

-- the two sides of the comparison
abbrev length : Float → Float
length d = sqrt_of binary32 d

abbrev part : Float → Float
part c = mul binary32 thousandth (length c)

-- ---- 9.99998e-7 and 1.000002e-6, and the value of a thousandth
abbrev pub less : Float
less = of_bits binary32 0x3586_37ab

abbrev pub more : Float
more = of_bits binary32 0x3586_37cf

thousandth_value : HasValue thousandth false 8589935 (2 ^ 33)
unfolding of_bits
thousandth_value = (refl, refl)

-- ---- the order of floats, by cases
none_above : (x : Float) → T (lt (inf false) x) → ⊥
unfolding lt
none_above nan t = t
none_above (inf s) t = t
none_above (fin s m e) t = t

-- above zero and below the infinity, whatever exponent the zero has
within : (e : ℤ) (x : Float) → T (positive x) → T (lt (fin false 0 e) x) × T (lt x (inf false))
unfolding lt
within e nan p = absurd p
within e (inf s) p = absurd p
within e (fin true m d) p = absurd p
within e (fin false m d) p = (lt→ltb (0 * up e * down d) (m * up d * down e) (simp zero-mul (mul-pos (mul-pos (ltb→lt 0 m p) (up_pos d)) (down_pos e))), tt)

-- ---- Rounding keeps the order, and a value of the format is rounded to itself: where it is above or below a rounded fraction, it is above or below the fraction.
lt_of_rounded : (a b c d : ℕ) → 0 < b → 0 < d → T (lt (round binary32 false a b) (round binary32 false c d)) → a * d < c * b
lt_of_rounded a b c d B D t = lt_of_not-le (λ h. order.lt_irrefl (round binary32 false a b) (order.lt_of_lt_of_le _ _ _ t (round_mono binary32 c d a b D B h)))

module _ (a b : ℕ) (B : 0 < b) (m : ℕ) (e : ℤ) (own : T (fits binary32 (fin false m e))) where
  above_rounded : T (lt (round binary32 false a b) (fin false m e)) → a * down e < m * up e * b
  above_rounded t = lt_of_rounded a b (m * up e) (down e) B (down_pos e) (subst (λ (x : Float). T (lt (round binary32 false a b) x)) (sym (round_own binary32 false m e own)) t)

  below_rounded : T (lt (fin false m e) (round binary32 false a b)) → m * up e * b < a * down e
  below_rounded t = lt_of_rounded (m * up e) (down e) a b (down_pos e) B (subst (λ (x : Float). T (lt x (round binary32 false a b))) (sym (round_own binary32 false m e own)) t)

-- ---- the root of a value above zero: that is at least the smallest value, and so its root is far above it
module _ (x : Float) (held : T (fits binary32 x)) (p : T (positive x)) where
  some_x : 0 < num x
  some_x = value_pos x (num x) (den x) p (den_pos x) (own_value x p)

  least : den x ≤ num x * unit
  least =
      let i = in_units binary32 x held (positive-finite x p) in
      let w = i.0 * 2 ^ i.1 in
      le_trans (le-mul_of_pos_right (den x) (first_pos w (den x) (lt_of_lt_of_le (mul-pos some_x (pow_pos 149)) (le_of_eq i.3)))) (le_of_eq (mul_comm (den x) w ∙ sym i.3))

  root_near : Relative binary32 (root (num x) (den x)) (length x)
  root_near = sqrt_relative binary32 x held p

  long : 8589935 * root_near.count ≤ hidden * 2 ^ 33 → ⊥
  long h = not-le_of_lt (lit< tt) (small_root (num x) (den x) unit root_near.count next (hidden * unit * (hidden * unit)) 8589935 (hidden * 2 ^ 33) (den_pos x) least root_near.most h)

  some_root : 0 < root_near.count
  some_root = lt_of_not-le (λ (h : root_near.count ≤ 0). long (le_trans (mul-le-mul_left 8589935 h) zero-le))

  root_positive : T (positive (length x))
  root_positive = positive_of_value (length x) root_near.count unit root_near.value some_root

-- ---- a squared chord c above zero
module _ (c : Float) (held : T (fits binary32 c)) (p : T (positive c)) where
  abbrev chord_near : Relative binary32 (root (num c) (den c)) (length c)
  chord_near = root_near c held p

  chord_under : chord_near.count < 2 ^ 128 * unit
  chord_under = units_under binary32 (length c) chord_near.count (meets.sqrt_rounded binary32 c p).held (positive-finite (length c) (root_positive c held p)) (value→cross (length c) chord_near.count unit chord_near.value)

  -- a thousandth of the chord
  part_near : Relative binary32 (fraction (8589935 * chord_near.count) (2 ^ 33 * unit)) (part c)
  part_near =
      scaled_relative binary32 thousandth (length c) 8589935 (2 ^ 33) chord_near.count unit (positive_of_value thousandth 8589935 (2 ^ 33) thousandth_value (lit< tt)) (root_positive c held p) (pow_pos 33) (pow_pos 149) thousandth_value chord_near.value (lit≤ tt) chord_under
      (λ h. long c held p (le_of_mul-le-mul_right (le_trans h (le_of_eq (sym (mul_assoc hidden (2 ^ 33) unit)))) (pow_pos 149)))

  part_positive : T (positive (part c))
  part_positive =
      positive_of_value (part c) part_near.count unit part_near.value
      (first_pos part_near.count next (first_pos (part_near.count * next) (2 ^ 33 * unit) (lt_of_lt_of_le (mul-pos (mul-pos (lit< tt) (some_root c held p)) (mul-pos (pow_pos 23) (pow_pos 149))) part_near.most)))

  opened : (d : Float) → near_of d c ≡ le (length d) (part c)
  unfolding near_of of_bits
  opened d = ap (λ (b : Bool). cond b (le (length d) (part c)) false) (is_true (lt (fin false 0 (pos 0)) (length c)) (within (pos 0) (length c) (root_positive c held p)).0)

  -- and a squared length d above zero
  module _ (d : Float) (own : T (fits binary32 d)) (q : T (positive d)) where
    abbrev length-near : Relative binary32 (root (num d) (den d)) (length d)
    length-near = root_near d own q

    too_long : 8796111 * num c * den d ≤ num d * (2 ^ 43 * den c) → length-near.count ≤ part_near.count → ⊥
    too_long h g =
        not-le_of_lt (lit< tt)
        (no_room hidden next unit (num d) (den d) (num c) (den c) length-near.count chord_near.count (2 ^ 33) 8589935 8796111 (2 ^ 43) (mul-pos (some_x d own q) (den_pos c)) length-near.most
        (below_scaled hidden next unit 8589935 (2 ^ 33) chord_near.count part_near.count length-near.count (pow_pos 149) part_near.least g) chord_near.least h)

    too_short : num d * (2 ^ 43 * den c) ≤ 8796075 * num c * den d → part_near.count ≤ length-near.count → ⊥
    too_short h g =
        not-le_of_lt (lit< tt)
        (no_room hidden next unit (num c) (den c) (num d) (den d) chord_near.count length-near.count 8589935 (2 ^ 33) (2 ^ 43) 8796075 (mul-pos (some_x c held p) (den_pos d)) chord_near.most
        (above_scaled hidden next unit 8589935 (2 ^ 33) chord_near.count part_near.count length-near.count (pow_pos 149) part_near.most g) length-near.least
        (simp (mul_assoc, mul_comm, mul_left_comm) (simp (mul_assoc, mul_comm, mul_left_comm) at h)))

    longer : 8796111 * num c * den d ≤ num d * (2 ^ 43 * den c) → T (le (length d) (part c)) → ⊥
    longer h g = too_long h (le_of_mul-le-mul_right (values_of_le (length d) (part c) length-near.count unit part_near.count unit (root_positive d own q) part_positive length-near.value part_near.value g) (pow_pos 149))

    shorter : num d * (2 ^ 43 * den c) ≤ 8796075 * num c * den d → T (le (length d) (part c))
    shorter h =
        le_of_values (length d) (part c) length-near.count unit part_near.count unit (pow_pos 149) (pow_pos 149) length-near.value part_near.value
        (mul-le-mul_right unit (le_of_suc-le-suc (lt_of_not-le (λ g. too_short h (le_of_lt g)))))

  far-finite : (d : Float) → T (fits binary32 d) → Unsigned d → T (lt (round binary32 false (8796111 * num c) (2 ^ 43 * den c)) d) → T (le (length d) (part c)) → ⊥
  unfolding le sqrt_of
  far-finite nan own u t g = g
  far-finite (inf true) own u t g = u
  far-finite (inf false) own u t g = order.lt_irrefl (inf false) (order.lt_of_le_of_lt (inf false) (part c) (inf false) g (within (pos 0) (part c) part_positive).1)
  far-finite (fin true m e) own u t g = u
  far-finite (fin false m e) own u t g =
      let h = above_rounded (8796111 * num c) (2 ^ 43 * den c) (mul-pos (pow_pos 43) (den_pos c)) m e own t in
      longer (fin false m e) own (lt→ltb 0 m (first_pos m (up e) (first_pos (m * up e) (2 ^ 43 * den c) (lt_of_le_of_lt zero-le h)))) (le_of_lt h) g

  near-finite : (m : ℕ) (e : ℤ) → T (fits binary32 (fin false m e)) → m * up e * (2 ^ 43 * den c) ≤ 8796075 * num c * down e → T (le (length (fin false m e)) (part c))
  unfolding sqrt_of
  near-finite zero e own h = order.le_of_lt (fin false 0 e) (part c) (within e (part c) part_positive).0
  near-finite (suc m) e own h = shorter (fin false (suc m) e) own (lt→ltb 0 (suc m) (zero-lt-suc m)) h

-- ---- what the tests say
pub far : (d c : Float) → T (fits binary32 d) → T (fits binary32 c) → Unsigned d → Unsigned c → T (lt (mul binary32 more c) d) → near_of d c ≡ false
unfolding near_of sqrt_of mul lt of_bits
far d nan own held u v t = absurd t
far d (inf true) own held u v t = absurd v
far d (inf false) own held u v t = absurd (none_above d t)
far d (fin true k l) own held u v t = absurd v
far d (fin false zero l) own held u v t = simp zero-mul
far d (fin false (suc k) l) own held u v t =
    let p = lt→ltb 0 (suc k) (zero-lt-suc k) in
    opened (fin false (suc k) l) held p d ∙ is_false _ (not_T _ (far-finite (fin false (suc k) l) held p d own u t))

pub near : (d c : Float) → T (fits binary32 d) → T (fits binary32 c) → Unsigned d → Unsigned c → T (lt d (mul binary32 less c)) → near_of d c ≡ true
unfolding near_of sqrt_of mul lt le of_bits
near nan c own held u v t = absurd t
near (inf true) c own held u v t = absurd u
near (inf false) c own held u v t = absurd (none_above (mul binary32 less c) t)
near (fin true m e) c own held u v t = absurd u
near (fin false m e) nan own held u v t = absurd t
near (fin false m e) (inf true) own held u v t = absurd v
near (fin false zero e) (inf false) own held u v t = refl
near (fin false (suc m) e) (inf false) own held u v t =
    let r = length (fin false (suc m) e) in
    is_true (le r (inf false)) (order.le_of_lt r (inf false) (within (pos 0) r (root_positive (fin false (suc m) e) own (lt→ltb 0 (suc m) (zero-lt-suc m)))).1)
near (fin false m e) (fin true k l) own held u v t = absurd v
near (fin false m e) (fin false k l) own held u v t =
    let h = below_rounded (8796075 * (k * up l)) (2 ^ 43 * down l) (mul-pos (pow_pos 43) (down_pos l)) m e own t in
    let n : 0 < k * up l = omega (arith, first_pos (8796075 * (k * up l)) (down e) (lt_of_le_of_lt zero-le h)) in
    let p = lt→ltb 0 k (first_pos k (up l) n) in
    opened (fin false k l) held p (fin false m e) ∙ is_true _ (near-finite (fin false k l) held p m e own (le_of_lt h))
