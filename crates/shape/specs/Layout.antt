-- How a shape, and the bounds and radii that it is made of, stand in floats. Definitions only.
use Rattle.std.specs.Prelude.{◌≡◌, List, [], ◌∷◌, ◌++◌, ℕ, ◌+◌, get_or, Float, if◌then◌else◌}
use Rattle.std.specs.Float.{nan}
use Rattle.std.specs.Float.Ieee.{ne}
use Rattle.geometry.specs.declared.Point.{Point}
use Rattle.geometry.specs.Point.{point_at}
use Rattle.ieee.specs.Binary32.{zero, one}
use Rattle.octant.specs.Octant.{point}
use Rattle.octant.specs.declared.Octant.{Octant}
use Rattle.quadrant.specs.declared.Quadrant.{Quadrant}
use Rattle.shape.specs.declared.Bounds.{Bounds}
use Rattle.shape.specs.declared.CornerRadii.{CornerRadii}
use Rattle.shape.specs.declared.RoundSuperellipse.{RoundSuperellipse}

-- ---- as floats: the order in which a shape stands in its slice

-- 2: x, then y
abbrev pub point_floats : Point → List Float
point_floats p = p.x ∷ p.y ∷ []

-- 9: the offset, the half-extent, the degree, the circle's start, center and greatest angle
unfoldable pub octant_floats : Octant → List Float
octant_floats o =
    point_floats o.offset
    ++ point_floats (point o.se_a o.se_n)
    ++ point_floats o.circle_start
    ++ point_floats o.circle_center
    ++ o.circle_max_angle ∷ []

-- 22: the offset, the signed scale, the top octant, the right octant
unfoldable pub quadrant_floats : Quadrant → List Float
quadrant_floats q = point_floats q.offset ++ point_floats q.signed_scale ++ octant_floats q.top ++ octant_floats q.right

-- 89: the quadrants top right, bottom right, bottom left, top left; then 1 where all corners are the same, else 0
unfoldable pub shape_floats : RoundSuperellipse → List Float
shape_floats s =
    quadrant_floats s.top_right
    ++ quadrant_floats s.bottom_right
    ++ quadrant_floats s.bottom_left
    ++ quadrant_floats s.top_left
    ++ (if s.all_corners_same then one else zero) ∷ []

-- ---- from floats, in the same order, from index i on

unfoldable pub octant_at : List Float → ℕ → Octant
octant_at fs i =
    record {
      offset = point_at fs i;
      se_a = get_or fs (i + 2) nan;
      se_n = get_or fs (i + 3) nan;
      circle_start = point_at fs (i + 4);
      circle_center = point_at fs (i + 6);
      circle_max_angle = get_or fs (i + 8) nan;
    }

unfoldable pub quadrant_at : List Float → ℕ → Quadrant
quadrant_at fs i =
    record {
      offset = point_at fs i;
      signed_scale = point_at fs (i + 2);
      top = octant_at fs (i + 4);
      right = octant_at fs (i + 13);
    }

-- any float but 0 says that all corners are the same
unfoldable pub shape_at : List Float → RoundSuperellipse
shape_at fs =
    record {
      top_right = quadrant_at fs 0;
      bottom_right = quadrant_at fs 22;
      bottom_left = quadrant_at fs 44;
      top_left = quadrant_at fs 66;
      all_corners_same = ne (get_or fs 88 nan) zero;
    }

-- Every shape is read back from the floats that it is stored as.
abbrev pub ShapesReadBack : Type 0
ShapesReadBack = (s : RoundSuperellipse) → shape_at (shape_floats s) ≡ s

-- ---- the 12 floats that a shape is made of: min, max, and the radii top left, top right, bottom left, bottom right
unfoldable pub bounds_at : List Float → Bounds
bounds_at fs = record { min = point_at fs 0; max = point_at fs 2 }

unfoldable pub radii_at : List Float → CornerRadii
radii_at fs =
    record {
      top_left = point_at fs 4;
      top_right = point_at fs 6;
      bottom_left = point_at fs 8;
      bottom_right = point_at fs 10;
    }
