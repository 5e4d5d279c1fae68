-- A shape is read back from the floats that it was stored as.
use mathlib.Core.Path.{◌≡◌, refl}
use mathlib.Core.Bool.{Bool, true, false}
use lib.Ieee.{ne, eq, of_bits}
use Rattle.quadrant.specs.declared.Quadrant.{Quadrant}
use Rattle.shape.specs.declared.RoundSuperellipse.{RoundSuperellipse}
use Rattle.shape.specs.Layout.{octant_floats, quadrant_floats, shape_floats, octant_at, quadrant_at, shape_at, ShapesReadBack}

abbrev shape : Quadrant → Quadrant → Quadrant → Quadrant → Bool → RoundSuperellipse
shape a b c d same = record { top_right = a; bottom_right = b; bottom_left = c; top_left = d; all_corners_same = same }

read_back : (a b c d : Quadrant) (same : Bool) → shape_at (shape_floats (shape a b c d same)) ≡ shape a b c d same
unfolding octant_floats quadrant_floats shape_floats octant_at quadrant_at shape_at ne eq of_bits
read_back a b c d true = refl
read_back a b c d false = refl

pub shapes_read_back : ShapesReadBack
shapes_read_back s = read_back s.top_right s.bottom_right s.bottom_left s.top_left s.all_corners_same
