-- What making a shape answers: refusal 2, 3 or 4, of several the lowest number, or the shape. Definitions only.
use Rattle.std.specs.Prelude.{ℕ, List, Bool, not, ◌||◌, Float, Result, Ok, Err, if◌then◌else◌, codes}
use Rattle.std.specs.Float.{binary32}
use Rattle.std.specs.Float.Ieee.{of_bits, lt}
use Rattle.std.specs.Float.Ieee.Scale.{finite}
use Rattle.ieee.specs.Basic.{abs_of}
use Rattle.geometry.specs.declared.Point.{Point}
use Rattle.ieee.specs.Binary32.{zero}
use Rattle.shape.specs.Shape.{shape_of}
use Rattle.shape.specs.declared.Bounds.{Bounds}
use Rattle.shape.specs.declared.CornerRadii.{CornerRadii}
use Rattle.shape.specs.declared.RoundSuperellipse.{RoundSuperellipse}
use Rattle.shape.specs.declared.ShapeError.{ShapeError}
use Rattle.shape.specs.declared.ShapeError.TheVariants.{BeyondLimit, NegativeRadius, Inverted}

-- the largest magnitude that passes
abbrev pub limit : Float
limit = of_bits binary32 0x4680_0000  -- 16384.0

-- the radii of one of the corners have it
unfoldable pub any_corner : (Point → Bool) → CornerRadii → Bool
any_corner has radii = has radii.top_left || has radii.top_right || has radii.bottom_left || has radii.bottom_right

-- ---- refusal 2: a component of the bounds or the radii is not finite, or over the limit in magnitude
unfoldable pub beyond_limit : Float → Bool
beyond_limit x = not (finite x) || lt limit (abs_of x)

unfoldable pub point_beyond : Point → Bool
point_beyond p = beyond_limit p.x || beyond_limit p.y

unfoldable pub bounds_beyond : Bounds → Bool
bounds_beyond bounds = point_beyond bounds.min || point_beyond bounds.max

unfoldable pub radii_beyond : CornerRadii → Bool
radii_beyond radii = any_corner point_beyond radii

-- ---- refusal 3: a component of the radii is below zero, which -0 is not
unfoldable pub point_below : Point → Bool
point_below p = lt p.x zero || lt p.y zero

unfoldable pub radii_below : CornerRadii → Bool
radii_below radii = any_corner point_below radii

-- ---- refusal 4: max is below min on an axis
unfoldable pub inverted : Bounds → Bool
inverted bounds = lt bounds.max.x bounds.min.x || lt bounds.max.y bounds.min.y

-- ---- the answer
-- a shape, or a refusal's number
pub data ShapeOutcome : Type 0 where
  made : RoundSuperellipse → ShapeOutcome
  refused : ℕ → ShapeOutcome

-- the number of each refusal
unfoldable pub number_of : ShapeError → ℕ
number_of BeyondLimit = 2
number_of NegativeRadius = 3
number_of Inverted = 4

-- the text of a refusal
abbrev pub beyond_text : List ℕ
beyond_text = codes "a bound or a radius is not finite, or over 16384 in magnitude"

abbrev pub negative_text : List ℕ
negative_text = codes "a radius is below zero"

abbrev pub inverted_text : List ℕ
inverted_text = codes "max is below min on an axis"

abbrev pub refusal_text : ShapeError → List ℕ
refusal_text BeyondLimit = beyond_text
refusal_text NegativeRadius = negative_text
refusal_text Inverted = inverted_text

-- the shape, or the refusal's number, of what the function returns
unfoldable pub shape_outcome_of : Result RoundSuperellipse ShapeError → ShapeOutcome
shape_outcome_of (Ok s) = made s
shape_outcome_of (Err e) = refused (number_of e)

-- the first refusal whose cause is met, the lowest number first, or the shape
unfoldable pub new_of : Bounds → CornerRadii → ShapeOutcome
new_of bounds radii =
    if bounds_beyond bounds || radii_beyond radii then refused 2
    else (if radii_below radii then refused 3
    else (if inverted bounds then refused 4
    else made (shape_of bounds radii)))
