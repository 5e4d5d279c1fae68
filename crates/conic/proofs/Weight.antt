-- A number is within t of 0 where it is neither above t nor below -t, and one that is above 0 and below infinity is finite and not at most 0. Assumes
-- nothing.
use mathlib.Core.Path.{◌≡◌, refl, sym, ap, ap₂, subst}
use mathlib.Core.Bool.{Bool, true, false, not, ◌&&◌, ◌||◌}
use Prim.Native.Nat.{ℕ, zero, suc, ◌+◌, ◌*◌}
use native.Mathlib.Omega.{arith}
use borrow.Author.Tests.{ltb-true, ltb-false, eq-eqb, ne_eqb}
use lib.IntN.{ℤ, pos, negsuc}
use lib.Dec.{T, ltb, eqb, lt→ltb, eqb→eq, eqb_refl}
use lib.Ieee.{Float, nan, inf, fin, up, down, neg, lt, eq, le, of_bits}
use lib.Ieee.Bits.{is_true}
use lib.Ieee.Scale.{finite}
use Rattle.ieee.specs.Binary32.{zero as float_zero}
use Rattle.ieee.specs.Basic.{abs_of}
use Rattle.conic.specs.Conic.{thousandth}

-- -a is at most b
minus-le : (a b : ℕ) → (ltb 0 (a + b) || (eqb a b && (false || eqb a 0))) ≡ true
minus-le zero zero = refl
minus-le zero (suc b) = ap (λ (p : Bool). p || (eqb 0 (suc b) && (false || eqb 0 0))) (is_true (ltb 0 (0 + suc b)) (lt→ltb 0 (0 + suc b) (omega arith)))
minus-le (suc a) b = ap (λ (p : Bool). p || (eqb (suc a) b && (false || eqb (suc a) 0))) (is_true (ltb 0 (suc a + b)) (lt→ltb 0 (suc a + b) (omega arith)))

same : (p q : Bool) → (T p → T q) → (T q → T p) → p ≡ q
same true true f g = refl
same true false f g = absurd (f tt)
same false true f g = absurd (g tt)
same false false f g = refl

eqb-sym : (a b : ℕ) → eqb a b ≡ eqb b a
eqb-sym a b = same (eqb a b) (eqb b a) (turn a b) (turn b a)
  where
    turn : (a b : ℕ) → T (eqb a b) → T (eqb b a)
    turn a b t = subst (λ (x : ℕ). T (eqb b x)) (sym (eqb→eq a b t)) (eqb_refl b)

and-true : (p q : Bool) → q ≡ true → (p && q) ≡ p
and-true true q h = h
and-true false q h = refl

within-is : (x : Float) (n : ℕ) (d : ℤ) → (le x (fin false n d) && le (neg (fin false n d)) x) ≡ le (abs_of x) (fin false n d)
unfolding le lt eq neg abs_of
within-is nan n d = refl
within-is (inf true) n d = refl
within-is (inf false) n d = refl
within-is (fin true m e) n d =
    let a = m * up e * down d in
    let b = n * up d * down e in
    ap₂ (λ (p q : Bool). p && (ltb a b || (q && true))) (minus-le a b) (eqb-sym b a)
within-is (fin false m e) n d =
    let a = m * up e * down d in
    let b = n * up d * down e in
    and-true (le (fin false m e) (fin false n d)) (le (fin true n d) (fin false m e)) (minus-le b a)

thousandth-is : thousandth ≡ fin false 8589935 (negsuc 32)
unfolding of_bits
thousandth-is = refl

pub within : (x : Float) → (le x thousandth && le (neg thousandth) x) ≡ le (abs_of x) thousandth
within x = subst (λ (t : Float). (le x t && le (neg t) x) ≡ le (abs_of x) t) (sym thousandth-is) (within-is x 8589935 (negsuc 32))

-- ---- a weight that may be halved

le_not-lt : (a b : ℕ) → (ltb a b || (eqb a b && true)) ≡ not (ltb b a && true)
le_not-lt a b = go (ltb a b) (ltb b a) refl refl
  where
    go : (p q : Bool) → ltb a b ≡ p → ltb b a ≡ q → (p || (eqb a b && true)) ≡ not (q && true)
    go true true e f = let x = ltb-true a b e in let y = ltb-true b a f in absurd (omega arith)
    go true false e f = refl
    go false true e f = let y = ltb-true b a f in rw (ne_eqb a b (λ z. omega arith))
    go false false e f = let x = ltb-false a b e in let y = ltb-false b a f in rw (eq-eqb a b (omega arith))

above_go : (x : Float) (r : Bool) → (not (finite x) || le x (fin false 0 (pos 0)) || r) ≡ (not (lt (fin false 0 (pos 0)) x && lt x (inf false)) || r)
unfolding le lt eq
above_go nan r = refl
above_go (inf true) r = refl
above_go (inf false) r = refl
above_go (fin true m e) r = ap (λ (p : Bool). p || r) (minus-le (m * up e * down (pos 0)) (0 * up (pos 0) * down e))
above_go (fin false m e) r = ap (λ (p : Bool). p || r) (le_not-lt (m * up e * down (pos 0)) (0 * up (pos 0) * down e))

zero-is : float_zero ≡ fin false 0 (pos 0)
unfolding of_bits
zero-is = refl

-- with the infinity that the code has
pub above : (x i : Float) (r : Bool) → i ≡ inf false → (not (finite x) || le x float_zero || r) ≡ (not (lt float_zero x && lt x i) || r)
above x i r e = rw (zero-is, e) (above_go x r)
