-- A vector is its four lanes. Assumes nothing.
use mathlib.Core.Path.{◌≡◌, refl, sym, ap, ap₂, ◌∙◌}
use mathlib.Core.Bool.{Bool, true, false, cond}
use mathlib.Core.List.{List, [], ◌∷◌}
use Prim.Native.Nat.{ℕ, ◌+◌, ◌/◌, ◌%◌, ◌^◌, ◌≤◌}
use native.Mathlib.Omega.{arith}
use lib.ListN.{length, get_or}
use lib.Dec.{eqb}
use lib.Lanes.{mask_l}
use lib.Ieee.{Float, nan}
use Rattle.lanes.proofs.Places.{four_lanes}
use Rattle.geometry.specs.declared.Point.{Point}
use Rattle.conic.specs.declared.Conic.{Conic}
use Rattle.conic.specs.Conic.{Halves, half_weight_of, split_of}
use Rattle.conic.specs.Vectors.{point_in, pair, conic_in, halves_in}

digit : (p : Bool) → cond p 1 0 ≤ 1
digit true = omega arith
digit false = omega arith

digit_is : (p : Bool) (n : ℕ) → n ≡ cond p 1 0 → eqb n 1 ≡ p
digit_is true n e = rw e
digit_is false n e = rw e

-- exactly one of two tests holds
abbrev pub OneOf : Bool → Bool → Type 0
OneOf p q = cond p 1 0 + cond q 1 0 ≡ 1

-- where the first test shows that n holds and the second that it does not, the first test is n
pub first-is : (p q n : Bool) → OneOf p q → (p ≡ true → n ≡ true) → (q ≡ true → n ≡ false) → p ≡ n
first-is true q n one f g = sym (f refl)
first-is false true n one f g = sym (g refl)
first-is false false n one f g = absurd (omega (arith, one))

-- four lanes as one number
module _ (a b c d : Bool) where
  abbrev pub bits : ℕ
  bits = mask_l (a ∷ b ∷ c ∷ d ∷ []) % 2 ^ 64

  pub first_lane : eqb (bits % 2) 1 ≡ a
  first_lane = digit_is a (bits % 2) (omega (arith, digit a, digit b, digit c, digit d))

  pub second_lane : eqb (bits / 2 % 2) 1 ≡ b
  second_lane = digit_is b (bits / 2 % 2) (omega (arith, digit a, digit b, digit c, digit d))

  -- where the first and the third lane are set once between them, and the second and the fourth too
  pub one_each : bits % 4 + bits / 4 ≡ 3 → OneOf a c × OneOf b d
  one_each sum = (omega (arith, sum, digit a, digit b, digit c, digit d), omega (arith, sum, digit a, digit b, digit c, digit d))

-- where the left half's end is the right half's start
pub meeting_lanes : (l r : List Float) → length l ≡ 4 → point_in l 2 ≡ point_in r 0 → l ≡ get_or l 0 nan ∷ get_or l 1 nan ∷ get_or r 0 nan ∷ get_or r 1 nan ∷ []
meeting_lanes l r e m = four_lanes nan l e ∙ ap₂ (λ (x y : Float). get_or l 0 nan ∷ get_or l 1 nan ∷ x ∷ y ∷ []) (ap (λ (p : Point). p.x) m) (ap (λ (p : Point). p.y) m)

-- of the halves of any conic
pub halves_meet : (c : Conic) (l k r : List Float) (u : Float) → halves_in l k r u ≡ split_of c → point_in l 2 ≡ point_in r 0
unfolding split_of
halves_meet c l k r u e = ap (λ (h : Halves). h.left.to) e ∙ sym (ap (λ (h : Halves). h.right.from) e)

-- two halves as the code has them, which takes the right one's control apart
abbrev pub halves_with : List Float → List Float → List Float → List Float → Float → Halves
halves_with l k r b u = record { left = conic_in l k u; right = conic_in r b u }

pub halves_are : (l k r b : List Float) (u : Float) → b ≡ pair (point_in k 2) (point_in k 2) → halves_with l k r b u ≡ halves_in l k r u
halves_are l k r b u e = ap (λ (v : List Float). halves_with l k r v u) e

pub halves_split : (c : Conic) (l k r b : List Float) (u : Float) → halves_in l k r (half_weight_of c.weight) ≡ split_of c → u ≡ half_weight_of c.weight → b ≡ pair (point_in k 2) (point_in k 2) → halves_with l k r b u ≡ split_of c
halves_split c l k r b u e w t = halves_are l k r b u t ∙ ap (halves_in l k r) w ∙ e

-- a conic is what its own vectors hold
pub of_pairs : (c : Conic) (e k : List Float) → e ≡ pair c.from c.to → k ≡ pair c.ctrl c.ctrl → conic_in e k c.weight ≡ c
of_pairs c e k p q = ap₂ (λ (e k : List Float). conic_in e k c.weight) p q
