-- Which refusal bounds and radii get, and when none: the statements of `refusals_are_exact`. Definitions only.
use Rattle.std.specs.Prelude.{◌≡◌, ◌↔◌, Bool, true, false, ◌||◌, Float}
use Rattle.std.specs.Float.{binary32, nan, inf, ◌≤ᶠ◌}
use Rattle.std.specs.Float.Ieee.{of_bits, neg, lt}
use Rattle.ieee.specs.Basic.{abs_of}
use Rattle.ieee.specs.Binary32.{zero}
use Rattle.geometry.specs.declared.Point.{Point}
use Rattle.octant.specs.Octant.{point}
use Rattle.shape.specs.Shape.{shape_of}
use Rattle.shape.specs.Refusal.{limit, beyond_limit, bounds_beyond, radii_beyond, radii_below, inverted, made, refused, new_of}
use Rattle.shape.specs.declared.Bounds.{Bounds}
use Rattle.shape.specs.declared.CornerRadii.{CornerRadii}

-- ---- the limits
-- of magnitude at most 16384; a NaN is not
abbrev pub IsInRange : Float → Type 0
IsInRange x = abs_of x ≤ᶠ limit

-- at least 0, which -0 is
abbrev pub IsNotNegative : Float → Type 0
IsNotNegative x = zero ≤ᶠ x

-- both components have it
abbrev pub OfBoth : (Float → Type 0) → Point → Type 0
OfBoth P p = P p.x × P p.y

-- the radii of all corners have it
abbrev pub OfFour : (Point → Type 0) → CornerRadii → Type 0
OfFour P radii = P radii.top_left × P radii.top_right × P radii.bottom_left × P radii.bottom_right

pub record IsWithinLimits (bounds : Bounds) (radii : CornerRadii) : Type 0 where
  pub min : OfBoth IsInRange bounds.min
  pub max : OfBoth IsInRange bounds.max
  pub corners : OfFour (OfBoth IsInRange) radii
  pub not_negative : OfFour (OfBoth IsNotNegative) radii
  pub across : bounds.min.x ≤ᶠ bounds.max.x
  pub down : bounds.min.y ≤ᶠ bounds.max.y

-- ---- when there is a shape, and which refusal there is otherwise
-- A shape is made within the limits, the one that `shape_of` says, and nowhere else.
abbrev pub MadeWithinLimits : Type 0
MadeWithinLimits =
    (bounds : Bounds) (radii : CornerRadii)
    → (new_of bounds radii ≡ made (shape_of bounds radii)) ↔ IsWithinLimits bounds radii

-- Something is within the limits: the greatest bounds with the greatest radii.
abbrev pub greatest_bounds : Bounds
greatest_bounds = record { min = point (neg limit) (neg limit); max = point limit limit }

abbrev pub greatest_radii : CornerRadii
greatest_radii =
    let r = point limit limit in
    record { top_left = r; top_right = r; bottom_left = r; bottom_right = r }

abbrev pub GreatestIsWithinLimits : Type 0
GreatestIsWithinLimits = IsWithinLimits greatest_bounds greatest_radii

abbrev pub beyond : Bounds → CornerRadii → Bool
beyond bounds radii = bounds_beyond bounds || radii_beyond radii

-- 2 comes exactly where a component is not finite or beyond the limit,
abbrev pub TwoIfBeyond : Type 0
TwoIfBeyond =
    (bounds : Bounds) (radii : CornerRadii)
    → (new_of bounds radii ≡ refused 2) ↔ (beyond bounds radii ≡ true)

-- 3 exactly where none is, and a radius is below zero,
abbrev pub ThreeIfNegative : Type 0
ThreeIfNegative =
    (bounds : Bounds) (radii : CornerRadii)
    → (new_of bounds radii ≡ refused 3) ↔ ((beyond bounds radii ≡ false) × (radii_below radii ≡ true))

-- 4 exactly where neither is so, and max is below min on an axis.
abbrev pub FourIfInverted : Type 0
FourIfInverted =
    (bounds : Bounds) (radii : CornerRadii)
    → (new_of bounds radii ≡ refused 4)
    ↔ ((beyond bounds radii ≡ false) × (radii_below radii ≡ false) × (inverted bounds ≡ true))

-- ---- at the borders
-- The limit passes, with either sign,
abbrev pub LimitPasses : Type 0
LimitPasses = (beyond_limit limit ≡ false) × (beyond_limit (neg limit) ≡ false)

-- the next float does not,
abbrev pub NextIsBeyond : Type 0
NextIsBeyond = beyond_limit (of_bits binary32 0x4680_0001) ≡ true

-- nor does what is not finite,
abbrev pub NotFiniteIsBeyond : Type 0
NotFiniteIsBeyond = (beyond_limit nan ≡ true) × ((s : Bool) → beyond_limit (inf s) ≡ true)

-- and -0 is not below zero.
abbrev pub MinusZeroIsNotBelow : Type 0
MinusZeroIsNotBelow = lt (neg zero) zero ≡ false
