-- The worked example of a shape, by computation. Assumes nothing.
use mathlib.Core.Path.{◌≡◌, refl}
use mathlib.Core.Bool.{true, false}
use lib.Ieee.{Float, binary32, of_bits, add, sub, mul, div, neg, lt, le, eq, ne, round}
use Rattle.ieee.specs.Basic.{abs_of, min_of}
use Rattle.geometry.specs.Point.{add_of, sub_of, div_of, shrink_of, abs_point}
use Rattle.ieee.specs.Binary32.{zero}
use Rattle.octant.specs.Octant.{point, compute_octant_of}
use Rattle.quadrant.specs.Quadrant.{forward_scale_of, or_sign_of, compute_quadrant_of, both_zero, split_of}
use Rattle.shape.specs.declared.Bounds.{Bounds}
use Rattle.shape.specs.declared.CornerRadii.{CornerRadii}
use Rattle.shape.specs.Shape.{same_point, all_same, one_quadrant, unequal_shape, shape_of}
use Rattle.shape.specs.Refusal.{any_corner, beyond_limit, point_beyond, bounds_beyond, radii_beyond, point_below, radii_below, inverted, made, new_of}
use Rattle.quadrant.specs.Quadrant.{square_corner}
use Rattle.containment.specs.Contains.{within, square_contains, norm_contains, corner_contains_of, contains_of}

-- opens the float operations and the definitions of a shape with square corners at once
unfoldable opened : Unit {0}
unfolding add sub mul div neg lt le eq ne round of_bits abs_of min_of add_of sub_of div_of shrink_of abs_point compute_octant_of forward_scale_of or_sign_of compute_quadrant_of both_zero split_of same_point all_same one_quadrant unequal_shape shape_of any_corner beyond_limit point_beyond bounds_beyond radii_beyond point_below radii_below inverted new_of within square_corner square_contains norm_contains corner_contains_of contains_of
opened = tt

abbrev five : Float
five = of_bits binary32 0x40a0_0000  -- 5.0

abbrev ten : Float
ten = of_bits binary32 0x4120_0000  -- 10.0

-- the program's shape: min (0,0), max (10,10), all radii 0
abbrev pub bounds : Bounds
bounds = record { min = point zero zero; max = point ten ten }

abbrev pub radii : CornerRadii
radii = let none = point zero zero in record { top_left = none; top_right = none; bottom_left = none; bottom_right = none }

-- The shape is made; in it (0,10) is outside, (5,5) inside.
pub is_made : new_of bounds radii ≡ made (shape_of bounds radii)
unfolding opened
is_made = refl

pub outside : contains_of (shape_of bounds radii) (point zero ten) ≡ false
unfolding opened
outside = refl

pub inside : contains_of (shape_of bounds radii) (point five five) ≡ true
unfolding opened
inside = refl
