-- The shape that the Rust's `RoundSuperellipse::new` makes of any bounds and radii. Definitions only.
use Rattle.std.specs.Prelude.{Bool, true, false, ◌&&◌, List, [], ◌∷◌, Float, if◌then◌else◌}
use Rattle.std.specs.Float.Ieee.{neg, eq, ne}
use Rattle.geometry.specs.declared.Point.{Point}
use Rattle.geometry.specs.Point.{add_of, shrink_of}
use Rattle.ieee.specs.Binary32.{zero, two, one}
use Rattle.octant.specs.Octant.{point}
use Rattle.quadrant.specs.Quadrant.{compute_quadrant_of, split_of}
use Rattle.quadrant.specs.declared.Quadrant.{Quadrant}
use Rattle.shape.specs.declared.Bounds.{Bounds}
use Rattle.shape.specs.declared.CornerRadii.{CornerRadii}
use Rattle.shape.specs.declared.RoundSuperellipse.{RoundSuperellipse}

-- p == q, by component: -0 equals +0, and a NaN equals nothing
unfoldable pub same_point : Point → Point → Bool
same_point p q = eq p.x q.x && eq p.y q.y

-- CornerRadii::all_same
unfoldable pub all_same : CornerRadii → Bool
all_same radii =
    same_point radii.top_left radii.top_right
    && same_point radii.top_left radii.bottom_left
    && same_point radii.top_left radii.bottom_right

-- one quadrant describes all four: equal corners, neither of whose radii is zero
unfoldable pub one_quadrant : CornerRadii → Bool
one_quadrant radii = all_same radii && ne radii.top_left.x zero && ne radii.top_left.y zero

abbrev minus_one : Float
minus_one = neg one  -- -1.0

-- the equal-corner path: one quadrant, four times
unfoldable pub equal_shape : Bounds → CornerRadii → RoundSuperellipse
equal_shape bounds radii =
    let center = shrink_of (add_of bounds.min bounds.max) two in
    let right_top = point bounds.max.x bounds.min.y in
    let q = compute_quadrant_of center right_top radii.top_right (point minus_one one) in
    record { top_right = q; bottom_right = q; bottom_left = q; top_left = q; all_corners_same = true }

-- the other path: a quadrant for each corner, about the points where the corners divide their sides
unfoldable pub unequal_shape : Bounds → CornerRadii → RoundSuperellipse
unequal_shape bounds radii =
    let min = bounds.min in
    let max = bounds.max in
    let right_top = point max.x min.y in
    let left_bottom = point min.x max.y in
    let top_split = split_of min.x max.x radii.top_left.x radii.top_right.x in
    let right_split = split_of min.y max.y radii.top_right.y radii.bottom_right.y in
    let bottom_split = split_of min.x max.x radii.bottom_left.x radii.bottom_right.x in
    let left_split = split_of min.y max.y radii.top_left.y radii.bottom_left.y in
    record {
      top_right = compute_quadrant_of (point top_split right_split) right_top radii.top_right (point one minus_one);
      bottom_right = compute_quadrant_of (point bottom_split right_split) max radii.bottom_right (point one one);
      bottom_left =
          compute_quadrant_of (point bottom_split left_split) left_bottom radii.bottom_left (point minus_one one);
      top_left = compute_quadrant_of (point top_split left_split) min radii.top_left (point minus_one minus_one);
      all_corners_same = false;
    }

-- the quadrants, in the order in which the unequal path makes them
abbrev pub corners_in_order : RoundSuperellipse → List Quadrant
corners_in_order s = s.top_right ∷ s.bottom_right ∷ s.bottom_left ∷ s.top_left ∷ []

-- RoundSuperellipse::new, refusals apart
unfoldable pub shape_of : Bounds → CornerRadii → RoundSuperellipse
shape_of bounds radii = if one_quadrant radii then equal_shape bounds radii else unequal_shape bounds radii
