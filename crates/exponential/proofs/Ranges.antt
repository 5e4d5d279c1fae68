-- t/LN2 + 0.5 lies within 1000 of 0 for every t from -110 to 100: a bound on a magnitude goes through a rounding. Assumes nothing.
use mathlib.Core.Path.{◌≡◌, refl, sym, ap, ◌∙◌, subst}
use mathlib.Core.Bool.{Bool, true, false, ◌&&◌, ◌||◌, cond, true≢false}
use Prim.Native.Nat.{ℕ, zero, suc, ◌+◌, ◌-◌, ◌*◌, ◌^◌, ◌≤◌, ◌<◌}
use native.Mathlib.Nat.{mul-one, le_of_mul-le-mul_right, mul_right_comm}
use native.Mathlib.Omega.{arith}
use borrow.Author.Tests.{ltb-false}
use lib.Dec.{T, ltb, eqb, ltb→lt, lt→ltb, eqb→eq}
use lib.Ieee.{Float, Format, nan, inf, fin, binary64, of_bits, neg, add, div, sum, round, units, odd, lt, le, eq, ne, up, down}
use lib.Ieee.Fits.{and_i, down_pos}
use lib.Ieee.Exact.{HasValue}
use lib.Ieee.Back.{round_whole}
use lib.Ieee.Order.{round_mono}
use Rattle.ieee.proofs.Signs.{Up, up_round}
use Rattle.ieee.specs.Binary64.{half}
use Rattle.exponential.specs.Constants.{hundred, lowest, ln2}
use Rattle.exponential.specs.Exponential.{within}

-- ---- a negative number's magnitude is rounded as the number is
neg-odd : (d q k l : ℕ) → neg (odd d false q k l) ≡ odd d true q k l
unfolding neg odd
neg-odd d zero k l = refl
neg-odd d (suc q) k l = refl

neg-cond : (b : Bool) (x y : Float) → neg (cond b x y) ≡ cond b (neg x) (neg y)
neg-cond true x y = refl
neg-cond false x y = refl

neg-inf : neg (inf false) ≡ inf true
unfolding neg
neg-inf = refl

neg-units : (f : Format) (q k : ℕ) → neg (units f false q k) ≡ units f true q k
unfolding units
neg-units f q k = simp (neg-cond, neg-odd, neg-inf)

neg-round : (f : Format) (a b : ℕ) → neg (round f false a b) ≡ round f true a b
unfolding round
neg-round f a b = simp neg-units

-- ---- bounds
-- the magnitude of x is at most n
abbrev Most : ℕ → Float → Type 0
Most n nan = ⊥
Most n (inf s) = ⊥
Most n (fin s m e) = m * up e ≤ n * down e

cancel : (x y n p d e : ℕ) → 0 < d → x * d ≤ y * e → y * 1 ≡ n * d → x ≤ n * e
cancel x y n p d e h l v = le_of_mul-le-mul_right (subst (λ (z : ℕ). x * d ≤ z) (ap (λ (z : ℕ). z * e) (sym (mul-one y) ∙ v) ∙ mul_right_comm n d e) l) h

or_le : (a b : ℕ) (c : Bool) → T (ltb a b || (eqb a b && c)) → a ≤ b
or_le a b c t = go (ltb a b) (eqb a b) c (ltb→lt a b) (eqb→eq a b) t
  where
    go : (u v w : Bool) → (T u → a < b) → (T v → a ≡ b) → T (u || (v && w)) → a ≤ b
    go true v w h k t = let g = h tt in omega arith
    go false true w h k t = let g = k tt in omega arith
    go false false w h k t = absurd t

most-le : (n : ℕ) (x y : Float) → Up x → T (le x y) → HasValue y false n 1 → Most n x
unfolding le lt eq
most-le n nan y u t v = absurd u
most-le n (inf true) y u t v = absurd u
most-le n (inf false) nan u t v = absurd v
most-le n (inf false) (inf s) u t v = absurd v
most-le n (inf false) (fin b p d) u t v = absurd t
most-le n (fin true m e) y u t v = absurd u
most-le n (fin false m e) nan u t v = absurd v
most-le n (fin false m e) (inf s) u t v = absurd v
most-le n (fin false m e) (fin true p d) u t v = absurd (true≢false v.0)
most-le n (fin false m e) (fin false p d) u t v = cancel (m * up e) (p * up d) n p (down d) (down e) (down_pos d) (or_le (m * up e * down d) (p * up d * down e) true t) v.1

most-neg : (n : ℕ) (x : Float) → Most n x → Most n (neg x)
unfolding neg
most-neg n nan h = h
most-neg n (inf s) h = h
most-neg n (fin s m e) h = h

-- a fraction of at most n, rounded
most-plus : (a c n : ℕ) → 0 < c → a ≤ n * c → n ≤ 2 ^ 53 → Most n (round binary64 false a c)
most-plus a c n p h k =
    most-le n (round binary64 false a c) (round binary64 false n 1) (up_round binary64 a c)
    (round_mono binary64 a c n 1 p (omega arith) (subst (λ (x : ℕ). x ≤ n * c) (sym (mul-one a)) h)) (round_whole binary64 false n k)

most-round : (s : Bool) (a c n : ℕ) → 0 < c → a ≤ n * c → n ≤ 2 ^ 53 → Most n (round binary64 s a c)
most-round false a c n p h k = most-plus a c n p h k
most-round true a c n p h k = subst (Most n) (neg-round binary64 a c) (most-neg n (round binary64 false a c) (most-plus a c n p h k))

most-div : (t : Float) → Most 110 t → Most 160 (div binary64 t ln2)
unfolding div of_bits
most-div nan h = h
most-div (inf s) h = absurd h
most-div (fin s m e) h = most-round _ (m * up e * 2 ^ 53) (6243314768165359 * down e) 160 (omega (arith, down_pos e)) (omega arith) (omega arith)

most-sum : (s : Bool) (a b c : ℕ) → 0 < c → a + b ≤ 161 * c → Most 161 (sum binary64 s a false b c)
unfolding sum
most-sum false a b c p h = most-round false (a + b) c 161 p h (omega arith)
most-sum true a b c p h = go (ltb a b)
  where
    go : (t : Bool) → Most 161 (cond t (round binary64 false (b - a) c) (round binary64 (true && ltb b a) (a - b) c))
    go true = most-round false (b - a) c 161 p (omega arith) (omega arith)
    go false = most-round (true && ltb b a) (a - b) c 161 p (omega arith) (omega arith)

most-add : (x : Float) → Most 160 x → Most 161 (add binary64 x half)
unfolding add of_bits
most-add nan h = h
most-add (inf s) h = absurd h
most-add (fin s m e) h = most-sum s (m * up e * 2) (1 * down e) (down e * 2) (omega (arith, down_pos e)) (omega arith)

most-within : (q : Float) → Most 161 q → T (within q)
unfolding lt neg of_bits
most-within nan h = absurd h
most-within (inf s) h = absurd h
most-within (fin false m e) h = and_i (ltb 0 (1000 * down e + m * up e * 1)) (ltb (m * up e * 1) (1000 * down e)) (lt→ltb 0 (1000 * down e + m * up e * 1) (omega (arith, down_pos e))) (lt→ltb (m * up e * 1) (1000 * down e) (omega (arith, down_pos e)))
most-within (fin true m e) h = and_i (ltb (m * up e * 1) (1000 * down e)) (ltb 0 (m * up e * 1 + 1000 * down e)) (lt→ltb (m * up e * 1) (1000 * down e) (omega (arith, down_pos e))) (lt→ltb 0 (m * up e * 1 + 1000 * down e) (omega (arith, down_pos e)))

most-start : (t : Float) → ne t t ≡ false → lt hundred t ≡ false → lt t lowest ≡ false → Most 110 t
unfolding ne eq lt neg of_bits
most-start nan n a b = true≢false n
most-start (inf true) n a b = true≢false b
most-start (inf false) n a b = true≢false a
most-start (fin false m e) n a b = omega (arith, ltb-false (100 * down e) (m * up e * 1) a)
most-start (fin true m e) n a b = omega (arith, ltb-false (110 * down e) (m * up e * 1) b)

pub turns_within : (t : Float) → ne t t ≡ false → lt hundred t ≡ false → lt t lowest ≡ false → T (within (add binary64 (div binary64 t ln2) half))
turns_within t n a b = most-within (add binary64 (div binary64 t ln2) half) (most-add (div binary64 t ln2) (most-div t (most-start t n a b)))
