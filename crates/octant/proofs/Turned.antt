-- A vector and those at right angles to it have one length: the same squares, added the other way round.
use mathlib.Core.Path.{◌≡◌, refl, sym, ap, ◌∙◌}
use mathlib.Core.Bool.{Bool, true, false, cond, ◌&&◌}
use Prim.Native.Nat.{ℕ, ◌+◌, ◌-◌, ◌*◌}
use native.Mathlib.Nat.{mul_comm}
use native.Mathlib.Nat as nat
use native.Mathlib.Omega.{arith}
use borrow.Author.Tests.{ltb-true, ltb-false}
use lib.Dec.{ltb}
use lib.Ieee.{Float, nan, inf, fin, Format, binary32, up, down, neg, round, sum, add, mul}
use Rattle.ieee.specs.Sqrt.{sqrt_of}
use Rattle.geometry.specs.declared.Point.{Point}
use Rattle.geometry.specs.Point.{length_squared_of, length_of}
use Rattle.octant.specs.Octant.{point}

-- the difference of a and b, of which one is negative
differ : (f : Format) (a b c c' : ℕ) (p q : Bool) → c ≡ c' → ltb a b ≡ p → ltb b a ≡ q
    → cond p (round f false (b - a) c) (round f (true && q) (a - b) c) ≡ cond q (round f true (a - b) c') (round f (false && p) (b - a) c')
differ f a b c c' true true e h k = let x = ltb-true a b h in let y = ltb-true b a k in absurd (omega arith)
differ f a b c c' true false e h k = ap (round f false (b - a)) e
differ f a b c c' false true e h k = ap (round f true (a - b)) e
differ f a b c c' false false e h k =
    let x = ltb-false a b h in
    let y = ltb-false b a k in
    let z : a - b ≡ b - a = omega arith in
    ap (λ (n : ℕ). round f false n c) z ∙ ap (round f false (b - a)) e

sum_comm : (f : Format) (s t : Bool) (a b c c' : ℕ) → c ≡ c' → sum f s a t b c ≡ sum f t b s a c'
unfolding sum
sum_comm f true true a b c c' e = ap (λ (n : ℕ). round f true n c) (nat.add_comm a b) ∙ ap (round f true (b + a)) e
sum_comm f false false a b c c' e = ap (λ (n : ℕ). round f false n c) (nat.add_comm a b) ∙ ap (round f false (b + a)) e
sum_comm f true false a b c c' e = differ f a b c c' (ltb a b) (ltb b a) e refl refl
sum_comm f false true a b c c' e = sym (differ f b a c' c (ltb b a) (ltb a b) (sym e) refl refl)

add_comm : (f : Format) (x y : Float) → add f x y ≡ add f y x
unfolding add
add_comm f nan nan = refl
add_comm f nan (inf t) = refl
add_comm f nan (fin t n d) = refl
add_comm f (inf s) nan = refl
add_comm f (inf true) (inf true) = refl
add_comm f (inf true) (inf false) = refl
add_comm f (inf false) (inf true) = refl
add_comm f (inf false) (inf false) = refl
add_comm f (inf s) (fin t n d) = refl
add_comm f (fin s m e) nan = refl
add_comm f (fin s m e) (inf t) = refl
add_comm f (fin s m e) (fin t n d) = sum_comm f s t (m * up e * down d) (n * up d * down e) (down e * down d) (down d * down e) (mul_comm (down e) (down d))

square-neg : (f : Format) (x : Float) → mul f (neg x) (neg x) ≡ mul f x x
unfolding mul neg
square-neg f nan = refl
square-neg f (inf true) = refl
square-neg f (inf false) = refl
square-neg f (fin true m e) = refl
square-neg f (fin false m e) = refl

pub turned : (v : Point) → length_of (point (neg v.y) v.x) ≡ length_of v
unfolding length_of length_squared_of
turned v =
    ap (sqrt_of binary32)
    (ap (λ (q : Float). add binary32 q (mul binary32 v.x v.x)) (square-neg binary32 v.y)
    ∙ add_comm binary32 (mul binary32 v.y v.y) (mul binary32 v.x v.x))

pub turned_back : (v : Point) → length_of (point v.y (neg v.x)) ≡ length_of v
unfolding length_of length_squared_of
turned_back v =
    ap (sqrt_of binary32)
    (ap (add binary32 (mul binary32 v.y v.y)) (square-neg binary32 v.x)
    ∙ add_comm binary32 (mul binary32 v.y v.y) (mul binary32 v.x v.x))
