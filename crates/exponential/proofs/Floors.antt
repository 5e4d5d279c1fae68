-- The greatest whole number not above q, for a q within 1000 of 0, by a sum that is rounded to a whole number: that is the one wanted, or the next. Assumes nothing.
use mathlib.Core.Path.{◌≡◌, refl, sym, ap, ap₂, ◌∙◌}
use mathlib.Core.Logic.{inl, inr}
use mathlib.Core.Bool.{Bool, true, false}
use Prim.Native.Nat.{ℕ, suc, ◌+◌, ◌-◌, ◌*◌, ◌/◌, ◌%◌, ◌^◌, ◌≤◌, ◌<◌, compare}
use native.Mathlib.Nat.{mul-one, mul_right_comm, mul-lt-mul_of_pos_right, mul-le-mul_right, div-add-mod', mod-lt, add-mul, zero-mul, le-div_iff_mul-le, div-lt_iff_lt-mul, le_antisymm, le_of_suc-le-suc}
use native.Mathlib.Omega.{arith}
use borrow.Author.Tests.{lt-ltb, le-ltb, ltb-true, ltb-false}
use lib.Arith.{digits_div}
use lib.Dec.{T, ltb, ltb→lt}
use lib.IntN.{ℤ, pos, negsuc, ◌+ℤ◌}
use lib.Ieee.{Float, nan, inf, fin, binary64, of_bits, of_int, add, sub, neg, sum, round, lt, below, up, down, minus}
use lib.Ieee.Back.{round_whole}
use lib.Ieee.Exact.{HasValue}
use lib.Ieee.Fits.{and_l, and_r, down_pos, nearest-le}
use lib.Ieee.Nearest.{closest, nearest-ge}
use Rattle.ieee.specs.Binary64.{one}
use Rattle.exponential.specs.Exponential.{floor_of, within}
use Rattle.exponential.proofs.Integers.{below_or_on, minus-le, minus-lt, minus-add, minus-down}
use Rattle.exponential.proofs.Wholes.{whole_value, sub-whole, round-to-whole}

-- BIAS of the code, as a number and as a value
abbrev pub W : ℕ
W = 6755399441056767

abbrev pub bias : Float
bias = of_bits binary64 0x4338_0000_0000_03ff

pub bias_value : HasValue bias false W 1
unfolding of_bits
bias_value = (refl, refl)

one_value : HasValue one false 1 1
unfolding of_bits
one_value = (refl, refl)

-- ---- a comparison with a whole number
ltb_scale : (a b d : ℕ) → 0 < d → ltb (a * d) (b * d) ≡ ltb a b
ltb_scale a b d p =
    elim (below_or_on a b) [
      | inl h ↦ lt-ltb (a * d) (b * d) (mul-lt-mul_of_pos_right h p) ∙ sym (lt-ltb a b h)
      | inr h ↦ le-ltb (a * d) (b * d) (mul-le-mul_right d h) ∙ sym (le-ltb a b h)
    ]

below_scale : (s t : Bool) (a b d : ℕ) → 0 < d → below s (a * d) t (b * d) ≡ below s a t b
below_scale false false a b d p = ltb_scale a b d p
below_scale false true a b d p = refl
below_scale true true a b d p = ltb_scale b a d p
below_scale true false a b d p = ap₂ ltb (sym (zero-mul d)) (sym (add-mul a b d)) ∙ ltb_scale 0 (a + b) d p

lt_value : (s : Bool) (m : ℕ) (e : ℤ) (x : Float) (t : Bool) (b : ℕ) → HasValue x t b 1 → lt (fin s m e) x ≡ below s (m * up e) t (b * down e)
unfolding lt
lt_value s m e nan t b v = absurd v
lt_value s m e (inf u) t b v = absurd v
lt_value s m e (fin u n d) t b v =
    ap₂ (λ (r : Bool) (y : ℕ). below s (m * up e * down d) r (y * down e)) v.0 (sym (mul-one (n * up d)) ∙ v.1)
    ∙ ap (below s (m * up e * down d) t) (mul_right_comm b (down d) (down e))
    ∙ below_scale s t (m * up e) (b * down e) (down d) (down_pos d)

-- ---- q = ±a / c, and BIAS more: the fraction lifted / c
abbrev lifted : Bool → ℕ → ℕ → ℕ
lifted false a c = W * c + a
lifted true a c = W * c - a

lifted_low : (s : Bool) (a c : ℕ) → a < 1000 * c → 2 ^ 52 * c ≤ lifted s a c
lifted_low false a c h = omega arith
lifted_low true a c h = omega arith

lifted_high : (s : Bool) (a c : ℕ) → a < 1000 * c → 0 < c → lifted s a c < (2 ^ 53 - 1) * c
lifted_high false a c h C = omega arith
lifted_high true a c h C = omega arith

-- the sum is the whole number closest to it
sum_lifted : (s : Bool) (a c : ℕ) → a < 1000 * c → 0 < c → sum binary64 s (a * 1) false (W * c) (c * 1) ≡ round binary64 false (lifted s a c) c
unfolding sum
sum_lifted false a c h C = ap₂ (round binary64 false) {x = a * 1 + W * c} {y = W * c + a} (omega arith) (mul-one c)
sum_lifted true a c h C = rw (lt-ltb (a * 1) (W * c) (omega arith)) (ap₂ (round binary64 false) {x = W * c - a * 1} {y = W * c - a} (omega arith) (mul-one c))

pub sum_is : (s : Bool) (m : ℕ) (e : ℤ) → m * up e < 1000 * down e → add binary64 (fin s m e) bias ≡ of_int binary64 (pos (closest (lifted s (m * up e) (down e)) (down e)))
unfolding add of_bits
sum_is s m e h =
    let a = m * up e in
    let c = down e in
    sum_lifted s a c h (down_pos e)
    ∙ round-to-whole binary64 (lifted s a c) c (down_pos e) (lifted_low s a c h) (lifted_high s a c h (down_pos e))

-- ---- its whole part, less BIAS, is the one wanted
whole_part : (n q r c : ℕ) → n ≡ q * c + r → r < c → n / c ≡ q
whole_part n q r c e h = ap (λ (x : ℕ). x / c) e ∙ digits_div q h

part_up : (a c : ℕ) → 0 < c → (W * c + a) / c ≡ W + a / c
part_up a c C =
    let d = div-add-mod' a c in
    let p = add-mul W (a / c) c in
    whole_part (W * c + a) (W + a / c) (a % c) c (omega arith) (mod-lt a C)

part_down : (a c : ℕ) → 0 < c → (a + (c - 1)) / c ≤ W → (W * c - a) / c ≡ W - (a + (c - 1)) / c
part_down a c C h =
    let k = (a + (c - 1)) / c in
    let r = (a + (c - 1)) % c in
    let l : r < c = mod-lt (a + (c - 1)) C in
    let d : k * c + r ≡ a + (c - 1) = div-add-mod' (a + (c - 1)) c in
    let w : W - k + k ≡ W = omega arith in
    let p : W * c ≡ (W - k) * c + k * c = ap (λ (x : ℕ). x * c) (sym w) ∙ add-mul (W - k) k c in
    whole_part (W * c - a) (W - k) (c - 1 - r) c (regroup (W * c) a ((W - k) * c) (k * c) r c C l d p) (omega arith)
  where
    regroup : (x a y z r c : ℕ) → 0 < c → r < c → z + r ≡ a + (c - 1) → x ≡ y + z → x - a ≡ y + (c - 1 - r)
    regroup x a y z r c C l d p = omega arith

few : (a c : ℕ) → 0 < c → a < 1000 * c → (a + (c - 1)) / c < 1001
few a c C h = (div-lt_iff_lt-mul C).1 (omega arith)

pub floor_is : (s : Bool) (m : ℕ) (e : ℤ) → m * up e < 1000 * down e → floor_of (fin s m e) ≡ minus (lifted s (m * up e) (down e) / down e) W
unfolding floor_of
floor_is false m e h =
    let q = m * up e / down e in
    sym (ap (λ (x : ℕ). minus x W) (part_up (m * up e) (down e) (down_pos e)) ∙ minus-le (W + q) W (omega arith) ∙ ap pos {y = q} (omega arith))
floor_is true m e h =
    let k = (m * up e + (down e - 1)) / down e in
    let l : k < 1001 = few (m * up e) (down e) (down_pos e) h in
    sym (ap (λ (x : ℕ). minus x W) (part_down (m * up e) (down e) (down_pos e) (omega arith)) ∙ minus-down W k (omega arith))

-- ---- the code's test: q is below the whole number k less BIAS
same_test : (x y u v : ℕ) → (x < y → u < v) → (y ≤ x → v ≤ u) → ltb x y ≡ ltb u v
same_test x y u v f g = elim (below_or_on x y) [ inl h ↦ lt-ltb x y h ∙ sym (lt-ltb u v (f h)) | inr h ↦ le-ltb x y h ∙ sym (le-ltb u v (g h)) ]

test_under : (s : Bool) (a c k j : ℕ) → a < 1000 * c → k + j ≡ W → below s a true (j * c) ≡ ltb (lifted s a c) (k * c)
test_under false a c k j h e = let p = ap (λ (x : ℕ). x * c) (sym e) ∙ add-mul k j c in sym (le-ltb (W * c + a) (k * c) (omega arith))
test_under true a c k j h e = let p = ap (λ (x : ℕ). x * c) (sym e) ∙ add-mul k j c in same_test (j * c) a (W * c - a) (k * c) (λ l. omega arith) (λ l. omega arith)

test_over : (s : Bool) (a c k j : ℕ) → a < 1000 * c → k ≡ W + j → below s a false (j * c) ≡ ltb (lifted s a c) (k * c)
test_over false a c k j h e = let p = ap (λ (x : ℕ). x * c) e ∙ add-mul W j c in same_test a (j * c) (W * c + a) (k * c) (λ l. omega arith) (λ l. omega arith)
test_over true a c k j h e = let p = ap (λ (x : ℕ). x * c) e ∙ add-mul W j c in same_test 0 (a + j * c) (W * c - a) (k * c) (λ l. omega arith) (λ l. omega arith)

negative_value : (j : ℕ) → suc j ≤ 2 ^ 53 → HasValue (of_int binary64 (negsuc j)) true (suc j) 1
unfolding of_int
negative_value j h = round_whole binary64 true (suc j) h

pub test_is : (s : Bool) (m : ℕ) (e : ℤ) (k : ℕ) → m * up e < 1000 * down e → k ≤ 2 ^ 53 → lt (fin s m e) (of_int binary64 (minus k W)) ≡ ltb (lifted s (m * up e) (down e)) (k * down e)
test_is s m e k h K =
    elim (below_or_on k W) [
      | inl l ↦
          let j = W - suc k in
          ap (λ (z : ℤ). lt (fin s m e) (of_int binary64 z)) (minus-lt k W l)
          ∙ lt_value s m e (of_int binary64 (negsuc j)) true (suc j) (negative_value j (omega arith))
          ∙ test_under s (m * up e) (down e) k (suc j) h (omega arith)
      | inr l ↦
          let j = k - W in
          ap (λ (z : ℤ). lt (fin s m e) (of_int binary64 z)) (minus-le k W l)
          ∙ lt_value s m e (of_int binary64 (pos j)) false j (whole_value binary64 j (omega arith))
          ∙ test_over s (m * up e) (down e) k j h (omega arith)
    ]

-- ---- in all: the floor with BIAS more, and the code's sum, which is that or the next
pub record Floored (q : Float) : Type 0 where
  pub place : ℕ
  pub is : floor_of q ≡ minus place W
  pub low : W ≤ place + 1001
  pub high : place ≤ W + 1000
  pub near : ℕ
  pub sum : add binary64 q bias ≡ of_int binary64 (pos near)
  pub next : lt q (of_int binary64 (minus near W)) ≡ true → near ≡ suc place
  pub here : lt q (of_int binary64 (minus near W)) ≡ false → near ≡ place
  pub most : near ≤ suc place

-- a number within 1000 of 0 is finite, and its fraction is as small
within_small : (s : Bool) (m : ℕ) (e : ℤ) → T (within (fin s m e)) → m * up e < 1000 * down e
unfolding lt neg of_bits
within_small false m e w = let h = ltb→lt (m * up e * 1) (1000 * down e) (and_r (ltb 0 (1000 * down e + m * up e * 1)) (ltb (m * up e * 1) (1000 * down e)) w) in omega arith
within_small true m e w = let h = ltb→lt (m * up e * 1) (1000 * down e) (and_l (ltb (m * up e * 1) (1000 * down e)) (ltb 0 (m * up e * 1 + 1000 * down e)) w) in omega arith

part_low : (n c w : ℕ) → 0 < c → w * c ≤ n → w ≤ n / c
part_low n c w C h = (le-div_iff_mul-le C).1 h

part_high : (n c w : ℕ) → 0 < c → n < suc w * c → n / c ≤ w
part_high n c w C h = le_of_suc-le-suc ((div-lt_iff_lt-mul C).1 h)

lifted_from : (s : Bool) (a c : ℕ) → a < 1000 * c → 0 < c → (W - 1000) * c ≤ lifted s a c
lifted_from false a c h C = omega arith
lifted_from true a c h C = omega arith

lifted_to : (s : Bool) (a c : ℕ) → a < 1000 * c → 0 < c → lifted s a c < suc (W + 1000) * c
lifted_to false a c h C = omega arith
lifted_to true a c h C = omega arith

-- n / c is k - 1 where k is more than the fraction, and k where it is not
one_more : (n c k : ℕ) → 0 < c → k ≤ suc (n / c) → n < k * c → k ≡ suc (n / c)
one_more n c k C h l = le_antisymm h ((div-lt_iff_lt-mul C).1 l)

no_more : (n c k : ℕ) → 0 < c → n / c ≤ k → k * c ≤ n → k ≡ n / c
no_more n c k C h l = le_antisymm ((le-div_iff_mul-le C).1 l) h

pub floored : (q : Float) → T (within q) → Floored q
floored nan w = unfold lt neg of_bits in absurd w
floored (inf true) w = unfold lt neg of_bits in absurd w
floored (inf false) w = unfold lt neg of_bits in absurd w
floored (fin s m e) w =
    let a = m * up e in
    let c = down e in
    let C = down_pos e in
    let h : a < 1000 * c = within_small s m e w in
    let n = lifted s a c in
    let k = closest n c in
    let o = compare (n % c * 2) c in
    let lo : W - 1000 ≤ n / c = part_low n c (W - 1000) C (lifted_from s a c h C) in
    let hi : n / c ≤ W + 1000 = part_high n c (W + 1000) C (lifted_to s a c h C) in
    let up1 : k ≤ suc (n / c) = nearest-le (n / c) o in
    let t = test_is s m e k h (omega arith) in
    record {
      place = n / c;
      is = floor_is s m e h;
      low = omega arith;
      high = hi;
      near = k;
      sum = sum_is s m e h;
      next = λ x. one_more n c k C up1 (ltb-true n (k * c) (sym t ∙ x));
      here = λ x. no_more n c k C (nearest-ge (n / c) o) (ltb-false n (k * c) (sym t ∙ x));
      most = up1;
    }

-- ---- what the code's function returns
module _ (q : Float) (w : T (within q)) where
  abbrev pub at : Floored q
  at = floored q w

  pub place_is : floor_of q +ℤ pos W ≡ pos at.place
  place_is = ap (λ (z : ℤ). z +ℤ pos W) at.is ∙ minus-add at.place W W ∙ minus-le (at.place + W) W (omega arith) ∙ ap pos {y = at.place} (omega arith)

  near_value : HasValue (of_int binary64 (pos at.near)) false at.near 1
  near_value = whole_value binary64 at.near (omega (arith, at.most, at.high))

  apart : sub binary64 (add binary64 q bias) bias ≡ of_int binary64 (minus at.near W)
  apart = ap (λ (x : Float). sub binary64 x bias) at.sum ∙ sub-whole binary64 (of_int binary64 (pos at.near)) bias at.near W near_value bias_value

  pub floor_next : lt q (sub binary64 (add binary64 q bias) bias) ≡ true → sub binary64 (add binary64 q bias) one ≡ of_int binary64 (floor_of q +ℤ pos W)
  floor_next t =
      let e = at.next (rw apart at t) in
      ap (λ (x : Float). sub binary64 x one) at.sum
      ∙ sub-whole binary64 (of_int binary64 (pos at.near)) one at.near 1 near_value one_value
      ∙ ap (of_int binary64) (minus-le at.near 1 (omega arith) ∙ ap pos {y = at.place} (omega arith) ∙ sym place_is)

  pub floor_here : lt q (sub binary64 (add binary64 q bias) bias) ≡ false → add binary64 q bias ≡ of_int binary64 (floor_of q +ℤ pos W)
  floor_here t =
      let e = at.here (rw apart at t) in
      at.sum ∙ ap (of_int binary64) (ap pos e ∙ sym place_is)
