-- The left row by comparisons: for a whole number k above 0, k ≤ x holds of a float exactly where k is at most x's whole part. Assumes nothing.
use mathlib.Core.Path.{◌≡◌, refl, sym, ap, ◌∙◌, subst}
use mathlib.Core.Logic.{inl, inr}
use mathlib.Core.Bool.{Bool, true, false, ◌&&◌, ◌||◌, true≢false}
use Prim.Native.Nat.{ℕ, zero, suc, ◌+◌, ◌-◌, ◌*◌, ◌/◌, ◌^◌, ◌≤◌, ◌<◌, min}
use native.Mathlib.Nat.{mul-one, mul_right_comm, mul-pos, le-div_iff_mul-le, div-lt_iff_lt-mul, mul-le-mul_right, mul-lt-mul_of_pos_right}
use native.Mathlib.Omega.{arith}
use borrow.Author.Tests.{leb-true, leb-false, le-leb, lt-leb, lt-ltb, le-ltb, eq-eqb, ne_eqb}
use lib.Dec.{T, leb, ltb, eqb, le→leb}
use lib.IntN.{pos}
use lib.Ieee.{Float, nan, inf, fin, binary32, of_int, round, lt, le, eq, up, down, to_unsigned, in_float}
use lib.Ieee.Fits.{down_pos}
use lib.Ieee.Exact.{HasValue}
use lib.Ieee.Back.{round_whole}
use Rattle.std.proofs.Common.{Option, Some, None}
use Rattle.std.specs.Option.{MatchOption, unwrap_or}
use Rattle.exponential.proofs.Integers.{below_or_on}
use Rattle.octant.specs.Degree.{left_row_of}

-- ---- comparisons of natural numbers, as Bools
-- two tests that hold together are the same Bool
leb_same : (a b c d : ℕ) → (b < a → d < c) → (a ≤ b → c ≤ d) → leb a b ≡ leb c d
leb_same a b c d f t =
    elim (below_or_on b a) [
      | inl h ↦ lt-leb a b h ∙ sym (lt-leb c d (f h))
      | inr h ↦ le-leb a b h ∙ sym (le-leb c d (t h))
    ]

-- a ≤ b as `le` has it of two numbers that are not negative
leb-is : (a b : ℕ) → (ltb a b || (eqb a b && true)) ≡ leb a b
leb-is a b =
    elim (below_or_on b a) [
      | inl h ↦ rw (le-ltb a b (omega arith), ne_eqb a b (λ e. omega arith), lt-leb a b h)
      | inr h ↦ elim (below_or_on a b) [
        | inl g ↦ rw (lt-ltb a b g, le-leb a b h)
        | inr g ↦ rw (le-ltb a b g, eq-eqb a b (omega arith), le-leb a b h)
      ]
    ]

leb_scale : (a b d : ℕ) → 0 < d → leb (a * d) (b * d) ≡ leb a b
leb_scale a b d p = sym (leb_same a b (a * d) (b * d) (λ h. mul-lt-mul_of_pos_right h p) (λ h. mul-le-mul_right d h))

leb-div : (k a d : ℕ) → 0 < d → leb (k * d) a ≡ leb k (a / d)
leb-div k a d p = sym (leb_same k (a / d) (k * d) a (div-lt_iff_lt-mul p).0 (le-div_iff_mul-le p).0)

leb_cap : (k x m : ℕ) → k ≤ m → leb k x ≡ leb k (min x m)
leb_cap k x m h = leb_same k x k (min x m) (λ g. omega arith) (λ g. omega arith)

-- ---- a float v with the value of a whole number k above 0, compared with any float
le_value : (v x : Float) (k : ℕ) → 0 < k → k ≤ 2 ^ 24 → HasValue v false k 1 → le v x ≡ leb k (to_unsigned 64 x)
unfolding le lt eq to_unsigned
le_value nan x k p h v = absurd v
le_value (inf s) x k p h v = absurd v
le_value (fin true n d) x k p h v = absurd (true≢false v.0)
le_value (fin false n d) nan k p h v = sym (lt-leb k 0 p)
le_value (fin false n d) (inf true) k p h v = sym (lt-leb k 0 p)
le_value (fin false n d) (inf false) k p h v = sym (le-leb k (2 ^ 64 - 1) (omega arith))
le_value (fin false n d) (fin true m e) k p h v =
    let a = n * up d * down e in
    let q : 0 < n * up d = subst (λ (y : ℕ). 0 < y) (sym v.1 ∙ mul-one (n * up d)) (mul-pos p (down_pos d)) in
    rw (ne_eqb a 0 (λ z. omega (arith, mul-pos q (down_pos e)))) (never (eqb a (m * up e * down d)) ∙ sym (lt-leb k 0 p))
  where
    never : (b : Bool) → (b && false) ≡ false
    never true = refl
    never false = refl
le_value (fin false n d) (fin false m e) k p h v =
    leb-is (n * up d * down e) (m * up e * down d)
    ∙ ap (λ (y : ℕ). leb (y * down e) (m * up e * down d)) (sym (mul-one (n * up d)) ∙ v.1)
    ∙ ap (λ (y : ℕ). leb y (m * up e * down d)) (mul_right_comm k (down d) (down e))
    ∙ leb_scale (k * down e) (m * up e) (down d) (down_pos d)
    ∙ leb-div k (m * up e) (down e) (down_pos e)
    ∙ leb_cap k (m * up e / down e) (2 ^ 64 - 1) (omega arith)

pub le-whole : (k : ℕ) (x : Float) → 0 < k → k ≤ 2 ^ 24 → le (of_int binary32 (pos k)) x ≡ leb k (to_unsigned 64 x)
unfolding of_int
le-whole k x p h = le_value (round binary32 false k 1) x k p h (round_whole binary32 false k h)

-- a whole number up to 2 ^ 24 casts without loss
pub casts : (k : ℕ) → k ≤ 2 ^ 24 → T (in_float binary32 (pos k))
unfolding in_float
casts k h = le→leb k (2 ^ 24) h

-- ---- of the numbers below `last`, the first after which no further step is taken, or `last`
reaches : (k : ℕ) (x : Float) → k < 256 → le (of_int binary32 (pos (k + 1))) x ≡ true → k < to_unsigned 64 x
reaches k x l h = let e = leb-true (k + 1) (to_unsigned 64 x) (sym (le-whole (k + 1) x (omega arith) (omega arith)) ∙ h) in omega arith

stays : (k : ℕ) (x : Float) → k < 256 → le (of_int binary32 (pos (k + 1))) x ≡ false → to_unsigned 64 x ≤ k
stays k x l h = let e = leb-false (k + 1) (to_unsigned 64 x) (sym (le-whole (k + 1) x (omega arith) (omega arith)) ∙ h) in omega arith

pub first_left : (r : Option ℕ) (x : Float) (last : ℕ) → last < 256
    → MatchOption r ((k : ℕ) → 0 ≤ k → k < last → le (of_int binary32 (pos (k + 1))) x ≡ true) (λ i. (0 ≤ i) × (i < last) × (le (of_int binary32 (pos (i + 1))) x ≡ false) × ((k : ℕ) → 0 ≤ k → k < i → le (of_int binary32 (pos (k + 1))) x ≡ true))
    → unwrap_or r last ≡ left_row_of x last
first_left None x zero l m = omega arith
first_left None x (suc last) l m = let h = reaches last x (omega arith) (m last (omega arith) (omega arith)) in omega arith
first_left (Some zero) x last l m = let h = stays 0 x (omega arith) m.2 in omega arith
first_left (Some (suc i)) x last l m =
    let b : suc i < last = m.1 in
    let h = stays (suc i) x (omega arith) m.2 in
    let k = reaches i x (omega arith) (m.3 i (omega arith) (omega arith)) in
    omega arith
