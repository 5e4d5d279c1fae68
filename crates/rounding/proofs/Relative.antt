-- How far a number is from its rounded value: above the smallest normal value, by a factor of (H + 1) / H at most, where H is `hid f`, 2 ^ (prec - 1). Assumes nothing.
use mathlib.Core.Path.{◌≡◌, sym, ap, ◌∙◌, subst}
use mathlib.Core.Logic.{◌⊎◌, inl, inr}
use Prim.Native.Nat.{ℕ, suc, ◌+◌, ◌-◌, ◌*◌, ◌/◌, ◌%◌, ◌^◌, ◌≤◌, ◌<◌, Ordering, compare}
use native.Mathlib.Nat.{le_trans, le_of_eq, le_of_suc-le-suc, lt_of_lt_of_le, lt_of_le_of_lt, lt_of_not-le, not-le_of_lt, mul-one, mul_comm, mul_assoc, mul_left_comm, mul_right_comm, mul-mul-mul_comm, mul-le-mul_right, mul-lt-mul_of_pos_left, mul-lt-mul_of_pos_right, mul-pos, mul-suc, suc-mul}
use native.Mathlib.Omega.{arith}
use mathlib.Core.Bool.{false}
use lib.Dec.{T, lit<, lit≤}
use lib.Pow.{pow_pos}
use lib.Ieee.{Float, Format, binary32, binary64, prec, emax, low, nearest, units, round, mul, fits, hid, size}
use lib.Ieee.Fits.{nearest-le, round_is}
use lib.Ieee.Exact.{HasValue}
use lib.Ieee.Nearest.{nearest-ge}
use lib.Ieee.Positive.{num, den, positive, positive-finite, den_pos, own_value, value_pos, mul_at}
use lib.Ieee.Scale.{finite}
use Rattle.ieee.specs.Sqrt.{root_of, sqrt_of}
use Rattle.ieee.proofs.Roots.{whole, dropped, order, is-units, sqrt_value}
use Rattle.rounding.specs.Meaning.{Number, fraction, root, at_most, at_least, last, largest}
use Rattle.rounding.proofs.Numbers.{Lawful, fraction_lawful, root_lawful}
use Rattle.rounding.proofs.Values.{in_units, rescaled}
use Rattle.rounding.proofs.Located.{Located}
use Rattle.rounding.proofs.LocatedRounded.{has_value, under}
use Rattle.rounding.proofs.Rounds.{fraction_located, root_located, round_rounded}
use Rattle.rounding.proofs.Meets.{meets}

-- x is n units of f's smallest value, 2 ^ -low, and v lies between n * H / (H + 1) and n * (H + 1) / H of them
pub record Relative (f : Format) (v : Number) (x : Float) : Type 0 where
  pub count : ℕ
  pub value : HasValue x false count (2 ^ low f)
  pub least : at_least v (count * hid f) (suc (hid f) * 2 ^ low f)
  pub most : at_most v (count * suc (hid f)) (hid f * 2 ^ low f)

-- v is not above the smallest normal value
abbrev pub Small : Format → Number → Type 0
Small f v = at_most v (hid f) (2 ^ low f)

-- ---- a located number
next_part : (h q : ℕ) → h ≤ q → suc q * h ≤ q * suc h
next_part h q g = let a = suc-mul q h in let b = mul-suc q h in omega arith

widen_left : (m q g h e l : ℕ) → m * h ≤ q * e → m * g * h * l ≤ q * g * (e * l)
widen_left m q g h e l i = le_trans (le_of_eq (ap (λ (z : ℕ). z * l) (mul_right_comm m g h) ∙ mul_assoc (m * h) g l)) (le_trans (mul-le-mul_right (g * l) i) (le_of_eq (mul-mul-mul_comm q e g l)))

widen_right : (m q g h e l : ℕ) → q * h ≤ m * e → q * g * (h * l) ≤ m * g * e * l
widen_right m q g h e l i = le_trans (le_of_eq (mul-mul-mul_comm q g h l)) (le_trans (mul-le-mul_right (g * l) i) (le_of_eq (sym (ap (λ (z : ℕ). z * l) (mul_right_comm m g e) ∙ mul_assoc (m * e) g l))))

module _ (f : Format) (v : Number) (law : Lawful v) (q k : ℕ) (o : Ordering) (at : Located f v q k o) (normal : Small f v → ⊥) where
  all_kept : hid f ≤ q
  all_kept = go at.full
    where
      go : (hid f ≤ q) ⊎ (k ≡ 0) → hid f ≤ q
      go (inl h) = h
      go (inr e) =
          le_of_suc-le-suc
          (lt_of_not-le (λ (g : suc q ≤ hid f). normal (law.raise (suc q * 2 ^ k) (2 ^ low f) (hid f) (2 ^ low f) (pow_pos (low f))
          (mul-le-mul_right (2 ^ low f) (subst (λ (z : ℕ). suc q * 2 ^ z ≤ hid f) (sym e) (le_trans (le_of_eq (mul-one (suc q))) g))) at.most)))

  located_relative : T (finite (units f false (nearest q o) k)) → Relative f v (units f false (nearest q o) k)
  located_relative t = record {
    count = nearest q o * 2 ^ k;
    value = has_value f v law q k o at false (under f v law q k o at false t);
    least = law.lower (q * 2 ^ k) (2 ^ low f) (nearest q o * 2 ^ k * hid f) (suc (hid f) * 2 ^ low f) (pow_pos (low f))
        (widen_left (nearest q o) q (2 ^ k) (hid f) (suc (hid f)) (2 ^ low f) (le_trans (mul-le-mul_right (hid f) (nearest-le q o)) (next_part (hid f) q all_kept))) at.least;
    most = law.raise (suc q * 2 ^ k) (2 ^ low f) (nearest q o * 2 ^ k * suc (hid f)) (hid f * 2 ^ low f) (pow_pos (low f))
        (widen_right (nearest q o) (suc q) (2 ^ k) (hid f) (suc (hid f)) (2 ^ low f) (le_trans (next_part (hid f) q all_kept) (mul-le-mul_right (suc (hid f)) (nearest-ge q o)))) at.most;
  }

-- ---- the library's `round`, and the root
pub round_relative : (f : Format) (n d : ℕ) → 0 < d → (Small f (fraction n d) → ⊥) → T (finite (round f false n d)) → Relative f (fraction n d) (round f false n d)
round_relative f n d D normal t =
    let k = size (n * 2 ^ low f / d) - prec f in
    let u = d * 2 ^ k in
    let w = n * 2 ^ low f in
    subst (Relative f (fraction n d)) (sym (round_is f false n d))
    (located_relative f (fraction n d) (fraction_lawful n d D) (w / u) k (compare (w % u * 2) u) (fraction_located f n d D) normal (subst (λ (x : Float). T (finite x)) (round_is f false n d) t))

pub root_relative : (f : Format) (n d : ℕ) → 0 < d → (Small f (root n d) → ⊥) → T (finite (root_of f n d)) → Relative f (root n d) (root_of f n d)
root_relative f n d D normal t =
    let p = dropped f n d in
    subst (Relative f (root n d)) (sym (is-units f n d))
    (located_relative f (root n d) (root_lawful n d D) (whole f n d / 2 ^ p) p (order f n d) (root_located f n d D) normal (subst (λ (x : Float). T (finite x)) (is-units f n d) t))

-- ---- the square root of a value: it is far above the smallest normal value, also where the value itself is not
unit-root : (n d w l g : ℕ) → n * l ≡ w * d → 0 < w → 0 < d → g < l → n * (l * l) ≤ g * d → ⊥
unit-root n d w l g e W D h i =
    let a : n * (l * l) ≡ w * d * l = sym (mul_assoc n l l) ∙ ap (λ (z : ℕ). z * l) e in
    let b : d * l ≤ w * d * l = mul-le-mul_right l (le_trans (le_of_eq (sym (one-mul d))) (mul-le-mul_right d W)) in
    not-le_of_lt (lt_of_lt_of_le (mul-lt-mul_of_pos_right h D) (le_trans (le_of_eq (mul_comm l d)) (le_trans b (le_of_eq (sym a))))) i
  where
    one-mul : (d : ℕ) → 1 * d ≡ d
    one-mul d = omega arith

hid_small : (f : Format) → hid f * hid f < 2 ^ low f
hid_small binary32 = lit< tt
hid_small binary64 = lit< tt

pub sqrt_relative : (f : Format) (x : Float) → T (fits f x) → T (positive x) → Relative f (root (num x) (den x)) (sqrt_of f x)
sqrt_relative f x h p =
    let n = num x in
    let d = den x in
    let N = value_pos x n d p (den_pos x) (own_value x p) in
    let e : sqrt_of f x ≡ root_of f n d = sqrt_value f x n d N (den_pos x) (own_value x p) in
    let i = in_units f x h (positive-finite x p) in
    let w = i.0 * 2 ^ i.1 in
    let W : 0 < w = value_pos x w (2 ^ low f) p (pow_pos (low f)) (rescaled x false n d w (2 ^ low f) (den_pos x) i.3 (own_value x p)) in
    subst (Relative f (root n d)) (sym e)
    (root_relative f n d (den_pos x) (unit-root n d w (2 ^ low f) (hid f * hid f) i.3 W (den_pos x) (hid_small f)) (subst (λ (y : Float). T (finite y)) e (meets.sqrt_finite f x h p)))

-- ---- the product with a factor k of at most a half, which does not overflow
top-under : (f : Format) → 2 ^ suc (emax f) ≤ 2 * largest f + last f
top-under binary32 = lit≤ tt
top-under binary64 = lit≤ tt

half-under : (t m a b c g : ℕ) → 2 * t ≤ m → 0 < m → a < c * b → c ≤ g → t * a * 2 < g * (m * b)
half-under t m a b c g h M i j =
    lt_of_le_of_lt (le_trans (le_of_eq (mul_comm (t * a) 2 ∙ sym (mul_assoc 2 t a))) (mul-le-mul_right a h))
    (lt_of_lt_of_le (mul-lt-mul_of_pos_left i M) (le_trans (le_of_eq (mul_left_comm m c b)) (mul-le-mul_right (m * b) j)))

pub scaled_relative : (f : Format) (k x : Float) (t m a b : ℕ) → T (positive k) → T (positive x) → 0 < m → 0 < b → HasValue k false t m → HasValue x false a b → 2 * t ≤ m → a < 2 ^ suc (emax f) * b
    → (Small f (fraction (t * a) (m * b)) → ⊥) → Relative f (fraction (t * a) (m * b)) (mul f k x)
scaled_relative f k x t m a b p q M B h i half under normal =
    subst (Relative f (fraction (t * a) (m * b))) (sym (mul_at f k x t m a b p q M B h i))
    (round_relative f (t * a) (m * b) (mul-pos M B) normal ((round_rounded f (t * a) (m * b) (mul-pos M B) false).bounded (half-under t m a b (2 ^ suc (emax f)) (2 * largest f + last f) half M under (top-under f))))
