-- Whole numbers in a format: their differences are exact, a fraction with as many digits before the point as the format has is rounded to the nearest of them, and their patterns. Assumes nothing.
use mathlib.Core.Path.{◌≡◌, sym, ap, ap₂, ◌∙◌}
use mathlib.Core.Logic.{inl, inr}
use mathlib.Core.Bool.{Bool, true, false, not, true≢false}
use Prim.Native.Nat.{ℕ, suc, ◌+◌, ◌-◌, ◌*◌, ◌/◌, ◌%◌, ◌^◌, ◌≤◌, ◌<◌, compare}
use native.Mathlib.Nat.{le_trans, le_of_eq, lt_of_lt_of_le, lt_of_le_of_lt, mul-one, mul_comm, mul_assoc, mul_right_comm, mul-pos, mul-le-mul_right, mul-lt-mul_of_pos_right, zero-lt-suc, zero-add, add-mul, div-one, mod-lt, le-div_iff_mul-le, div-lt_iff_lt-mul, sub-le}
use native.Mathlib.Omega.{arith}
use borrow.Author.Tests.{lt-ltb, le-ltb}
use lib.Dec.{T}
use lib.IntN.{pos}
use lib.Pow.{pow-add, pow_pos}
use lib.Ieee.{Float, nan, inf, fin, Format, prec, low, hid, up, down, neg, sub, add, sum, round, units, of_int, minus, size, nearest, to_bits, is_nan}
use lib.Ieee.Back.{round_whole}
use lib.Ieee.Exact.{HasValue}
use lib.Ieee.Fits.{down_pos, round_is, two, nearest-le}
use lib.Ieee.Nearest.{closest, closest_same, nearest-ge}
use lib.Ieee.Scale.{round_same}
use Rattle.ieee.proofs.Units.{size_quotient, bits_of_finite, round-no_nan}
use Rattle.exponential.proofs.Integers.{below_or_on, minus-le, minus-lt}

pub whole_value : (f : Format) (n : ℕ) → n ≤ 2 ^ prec f → HasValue (of_int f (pos n)) false n 1
unfolding of_int
whole_value f n h = round_whole f false n h

-- ---- a difference
scaled : (x y z c : ℕ) → x ≡ y + z → (x * c - y * c) * 1 ≡ z * c
scaled x y z c e = let m = ap (λ (w : ℕ). w * c) e ∙ add-mul y z c in omega arith

sum_apart : (f : Format) (a b c : ℕ) → 0 < c → sum f false (a * c) true (b * c) c ≡ of_int f (minus a b)
unfolding sum of_int
sum_apart f a b c p =
    elim (below_or_on a b) [
      | inl h ↦ rw (lt-ltb (a * c) (b * c) (mul-lt-mul_of_pos_right h p), minus-lt a b h) (round_same f true (b * c - a * c) c (suc (b - suc a)) 1 p (zero-lt-suc 0) (scaled b a (suc (b - suc a)) c (omega arith)))
      | inr h ↦ rw (le-ltb (a * c) (b * c) (mul-le-mul_right c h), minus-le a b h) (round_same f false (a * c - b * c) c (a - b) 1 p (zero-lt-suc 0) (scaled a b (a - b) c (omega arith)))
    ]

pub sub-whole : (f : Format) (x y : Float) (a b : ℕ) → HasValue x false a 1 → HasValue y false b 1 → sub f x y ≡ of_int f (minus a b)
unfolding sub add neg
sub-whole f nan y a b v w = absurd v
sub-whole f (inf s) y a b v w = absurd v
sub-whole f (fin s m e) nan a b v w = absurd w
sub-whole f (fin s m e) (inf t) a b v w = absurd w
sub-whole f (fin true m e) (fin t n d) a b v w = absurd (true≢false v.0)
sub-whole f (fin false m e) (fin true n d) a b v w = absurd (true≢false w.0)
sub-whole f (fin false m e) (fin false n d) a b v w =
    ap₂ (λ (x y : ℕ). sum f false x true y (down e * down d))
    (ap (λ (x : ℕ). x * down d) (sym (mul-one (m * up e)) ∙ v.1) ∙ mul_assoc a (down e) (down d))
    (ap (λ (x : ℕ). x * down e) (sym (mul-one (n * up d)) ∙ w.1) ∙ mul_assoc b (down d) (down e) ∙ ap (λ (x : ℕ). b * x) (mul_comm (down d) (down e)))
    ∙ sum_apart f a b (down e * down d) (mul-pos (down_pos e) (down_pos d))

-- ---- a fraction, rounded to a whole number
full : (p l : ℕ) → 2 ≤ p → suc (p - 1 + l) ≡ p + l
full p l h = omega arith

drops : (z p l : ℕ) → z ≡ suc (p - 1 + l) → 2 ≤ p → z - p ≡ l
drops z p l e h = omega arith

whole-units : (f : Format) (n d : ℕ) → 0 < d → hid f * d ≤ n → n < 2 ^ prec f * d → round f false n d ≡ units f false (closest n d) (low f)
whole-units f n d D lo hi =
    let p = prec f in
    let l = low f in
    let L = 2 ^ l in
    let over : (x : ℕ) → x * L * d ≡ x * d * L = λ x. mul_right_comm x L d in
    let lo' : 2 ^ (p - 1 + l) * d ≤ n * L = le_trans (le_of_eq (ap (λ (x : ℕ). x * d) (pow-add 2 (p - 1) l) ∙ over (hid f))) (mul-le-mul_right L lo) in
    let hi' : n * L < 2 ^ suc (p - 1 + l) * d =
    lt_of_lt_of_le (mul-lt-mul_of_pos_right hi (pow_pos l)) (le_of_eq (sym (ap (λ (x : ℕ). 2 ^ x * d) (full p l (two f)) ∙ ap (λ (x : ℕ). x * d) (pow-add 2 p l) ∙ over (2 ^ p)))) in
    round_is f false n d
    ∙ ap (λ (k : ℕ). units f false (closest (n * L) (d * 2 ^ k)) k) (drops (size (n * L / d)) p l (size_quotient (n * L) d (p - 1 + l) D lo' hi') (two f))
    ∙ ap (λ (k : ℕ). units f false k l) (closest_same (n * L) (d * L) n d (mul-pos D (pow_pos l)) D (mul_assoc n L d ∙ ap (λ (x : ℕ). n * x) (mul_comm L d)))

none_left : (n : ℕ) → n < 1 → n ≡ 0
none_left n h = omega arith

closest-one : (n : ℕ) → closest n 1 ≡ n
closest-one n =
    ap (λ (r : ℕ). nearest (n / 1) (compare (r * 2) 1)) (none_left (n % 1) (mod-lt n (zero-lt-suc 0)))
    ∙ div-one n

under : (q p : ℕ) → q < p - 1 → suc q < p
under q p h = omega arith

-- n / d lies in the range where the format's values are the whole numbers, and not so high that it is rounded out of it
pub round-to-whole : (f : Format) (n d : ℕ) → 0 < d → hid f * d ≤ n → n < (2 ^ prec f - 1) * d → round f false n d ≡ of_int f (pos (closest n d))
unfolding of_int
round-to-whole f n d D lo hi =
    let k = closest n d in
    let least : hid f ≤ k = le_trans ((le-div_iff_mul-le D).1 lo) (nearest-ge (n / d) (compare (n % d * 2) d)) in
    let most : k < 2 ^ prec f = lt_of_le_of_lt (nearest-le (n / d) (compare (n % d * 2) d)) (under (n / d) (2 ^ prec f) ((div-lt_iff_lt-mul D).1 hi)) in
    let hi' : n < 2 ^ prec f * d = lt_of_lt_of_le hi (mul-le-mul_right d (sub-le (2 ^ prec f) 1)) in
    whole-units f n d D lo hi'
    ∙ ap (λ (x : ℕ). units f false x (low f)) (sym (closest-one k))
    ∙ sym (whole-units f k 1 (zero-lt-suc 0) (le_trans (le_of_eq (mul-one (hid f))) least) (lt_of_lt_of_le most (le_of_eq (sym (mul-one (2 ^ prec f))))))

-- ---- the pattern
in_units : (x : Float) (s : Bool) (a l : ℕ) → HasValue x s a 1 → HasValue x s (a * l) l
in_units nan s a l v = v
in_units (inf t) s a l v = v
in_units (fin t m e) s a l v = (v.0, ap (λ (x : ℕ). x * l) (sym (mul-one (m * up e)) ∙ v.1) ∙ mul_right_comm a (down e) l)

pub whole-bits : (f : Format) (n : ℕ) → hid f ≤ n → n ≤ 2 ^ prec f → to_bits f (of_int f (pos n)) ≡ low f * hid f + n
whole-bits f n lo hi =
    bits_of_finite f (of_int f (pos n)) false n (low f) hi (inl lo) (in_units (of_int f (pos n)) false n (2 ^ low f) (whole_value f n hi))
    ∙ zero-add (low f * hid f + n)

pub whole-no_nan : (f : Format) (n : ℕ) → T (not (is_nan (of_int f (pos n))))
unfolding of_int
whole-no_nan f n = round-no_nan f false n 1
