-- What `regular` says of a number: its size, and so the exponent in its pattern. Assumes nothing.
use Rattle.std.proofs.Common.{◌≡◌, ℕ, zero, suc, ◌+◌, ◌*◌, ◌/◌, ◌%◌, ◌^◌, ◌<◌, ◌≤◌, Bool, true, false, cond, not, T, eqb, leb, pos, negsuc, sym, refl, subst, le_trans, le_of_eq, lt_of_lt_of_le, le_of_lt, mul-le-mul, mul-lt-mul_of_pos_right, lt_of_not-le, mul-one, not-le_of_lt, arith, ltb→lt, pow_pos, pow_mono, shl_lt}
use lib.Ieee.{Float, nan, inf, fin, binary64, up, down, odd, lt, fits, is_nan, to_bits, of_bits, of_fields}
use lib.Ieee.Exact.{HasValue, odd_sign}
use lib.Ieee.Fits.{down_pos}
use lib.Ieee.Order.{transfer}
use Rattle.ieee.specs.Basic.{abs_of}
use Rattle.ieee.specs.Narrow.{regular}
use Rattle.ieee.proofs.Tests.{both}
use Rattle.ieee.proofs.Narrowing.{fields_of}

-- finite, and from 2 ^ -126 to below 2 ^ 128 in size
abbrev Within : Float → Type 0
Within nan = ⊥
Within (inf s) = ⊥
Within (fin s m e) = (1 * down e ≤ m * up e * 2 ^ 126) × (m * up e * 1 < 2 ^ 128 * down e)

-- ---- sizes from comparisons
yes : (b : Bool) → b ≡ true → T b
yes b e = subst T (sym e) tt

-- ---- the two bounds, 2 ^ -126 and 2 ^ 128
abbrev least : Float
least = fin false 1 (negsuc 125)

abbrev bound : Float
bound = fin false 1 (pos 128)

tests_within : (x : Float) → T (lt least (abs_of x)) → T (lt (abs_of x) bound) → Within x
unfolding lt abs_of
tests_within nan a b = absurd a
tests_within (inf s) a b = absurd b
tests_within (fin s m e) a b =
    let n = m * up e in
    (le_of_lt (ltb→lt (1 * down e) (n * 2 ^ 126) a), ltb→lt (n * 1) (2 ^ 128 * down e) b)

regular-within : (x : Float) → regular x ≡ true → Within x
unfolding regular of_bits
regular-within x h =
    let each = both (lt least (abs_of x)) (lt (abs_of x) bound) h in
    tests_within x (yes (lt least (abs_of x)) each.0) (yes (lt (abs_of x) bound) each.1)

pub regular-number : (x : Float) → regular x ≡ true → T (not (is_nan x))
regular-number x h = number x (regular-within x h)
  where
    number : (x : Float) → Within x → T (not (is_nan x))
    number nan w = absurd w
    number (inf s) w = absurd w
    number (fin s m e) w = unfold is_nan in tt

-- ---- where the digits q of a number stand, which is q * 2 ^ k of the smallest values
least-place : (x : Float) (s : Bool) (q k : ℕ) → HasValue x s (q * 2 ^ k) (2 ^ 1074) → Within x → q < 2 ^ 53 → 895 < k
least-place nan s q k v w h = absurd w
least-place (inf t) s q k v w h = absurd w
least-place (fin t m e) s q k v w h =
    lt_of_not-le (λ (g : k ≤ 895).
    not-le_of_lt (mul-lt-mul_of_pos_right (lt_of_lt_of_le (shl_lt 53 k h) (pow_mono {i = 53 + k} {j = 948} (omega arith))) (pow_pos 126))
    (transfer 1 (q * 2 ^ k) (2 ^ 126) (2 ^ 1074) 1 (m * up e) (2 ^ 126) (down e) (pow_pos 126) (down_pos e) refl (sym v.1) w.0))

last-place : (x : Float) (s : Bool) (q k : ℕ) → HasValue x s (q * 2 ^ k) (2 ^ 1074) → Within x → 2 ^ 52 ≤ q → k < 1150
last-place nan s q k v w h = absurd w
last-place (inf t) s q k v w h = absurd w
last-place (fin t m e) s q k v w h =
    lt_of_not-le (λ (g : 1150 ≤ k).
    not-le_of_lt w.1
    (transfer (2 ^ 128) (m * up e) 1 (down e) (2 ^ 128) (q * 2 ^ k) 1 (2 ^ 1074) (pow_pos 0) (pow_pos 1074) refl v.1
    (le_trans (mul-le-mul h (pow_mono g)) (le_of_eq (sym (mul-one (q * 2 ^ k)))))))

-- ---- the exponent's field: those of the normal values of binary32
abbrev Places : ℕ → Type 0
Places e = (897 ≤ e) × (e < 1151)

fields_place : (s : Bool) (e t : ℕ) → t < 2 ^ 52 → Within (of_fields binary64 s e t) → Places e
unfolding of_fields
fields_place s zero t h w = absurd (none (least-place (odd 53 s t 0 1074) s t 0 (odd_sign 53 s t 0 1074) w (omega arith)))
  where
    none : 895 < 0 → ⊥
    none l = omega arith
fields_place s (suc k) t h w = go (eqb (suc k) 2047) (eqb t 0) w
  where
    go : (a b : Bool) → Within (cond a (cond b (inf s) nan) (odd 53 s (2 ^ 52 + t) k 1074)) → Places (suc k)
    go true true w = absurd w
    go true false w = absurd w
    go false b w =
        let v = odd_sign 53 s (2 ^ 52 + t) k 1074 in
        let lo : 895 < k = least-place (odd 53 s (2 ^ 52 + t) k 1074) s (2 ^ 52 + t) k v w (omega arith) in
        let hi : k < 1150 = last-place (odd 53 s (2 ^ 52 + t) k 1074) s (2 ^ 52 + t) k v w (omega arith) in
        (omega arith, omega arith)

pub regular-exponent : (x : Float) → T (fits binary64 x) → regular x ≡ true → Places (to_bits binary64 x % 2 ^ 63 / 2 ^ 52)
regular-exponent x h r =
    let b = to_bits binary64 x in
    fields_place (leb (2 ^ 63) b) (b % 2 ^ 63 / 2 ^ 52) (b % 2 ^ 52) (omega arith) (subst Within (fields_of x h) (regular-within x r))
