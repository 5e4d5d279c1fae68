-- The Rust's `octant_contains`, `corner_contains` and `contains`, in its order. Definitions only.
use Rattle.std.specs.Prelude.{Bool, true, false, ◌&&◌, ◌||◌, Float, if◌then◌else◌}
use Rattle.std.specs.Float.Ieee.{lt, le, eq}
use Rattle.geometry.specs.declared.Point.{Point}
use Rattle.geometry.specs.Point.{sub_of, div_of, shrink_of, abs_point, length_squared_of, distance_squared_of}
use Rattle.exponential.specs.Power.{pow_of}
use Rattle.ieee.specs.Binary32.{◌⊕◌, ◌⊖◌, zero, one}
use Rattle.octant.specs.Octant.{point}
use Rattle.octant.specs.declared.Octant.{Octant}
use Rattle.quadrant.specs.declared.Quadrant.{Quadrant}
use Rattle.quadrant.specs.Quadrant.{square_corner}
use Rattle.shape.specs.declared.RoundSuperellipse.{RoundSuperellipse}

-- octant_contains: inside the octant's arc: the superellipse's, its border included, as far as the circle starts,
-- then the circle's, without its border; true for any point outside the octant
unfoldable pub octant_contains_of : Octant → Point → Bool
octant_contains_of param p =
    if lt p.x zero || lt p.y zero || lt p.y p.x then true
    else (if le p.x param.circle_start.x
    then (let p_se = shrink_of p param.se_a in
    le (pow_of p_se.x param.se_n ⊕ pow_of p_se.y param.se_n) one)
    else (let circle_radius = distance_squared_of param.circle_start param.circle_center in
    lt (length_squared_of (sub_of p param.circle_center)) circle_radius))

-- inside an edge, or on one whose scale is negative: the top and left borders belong to the shape
unfoldable pub within : Float → Float → Bool
within delta scale = lt zero delta || (eq delta zero && lt scale zero)

-- inside both edges of a square corner, for a point in the quadrant's own space
unfoldable pub square_contains : Quadrant → Point → Bool
square_contains param norm_point =
    let x_delta = param.right.offset.x ⊕ param.right.se_a ⊖ norm_point.x in
    let y_delta = param.top.offset.y ⊕ param.top.se_a ⊖ norm_point.y in
    within x_delta param.signed_scale.x && within y_delta param.signed_scale.y

-- inside both octants' arcs, the right one's with x and y exchanged
unfoldable pub round_contains : Quadrant → Point → Bool
round_contains param norm_point =
    let from_top = sub_of norm_point param.top.offset in
    let from_right = sub_of norm_point param.right.offset in
    octant_contains_of param.top from_top && octant_contains_of param.right (point from_right.y from_right.x)

-- inside a corner of either kind
unfoldable pub norm_contains : Quadrant → Point → Bool
norm_contains param norm_point =
    if square_corner param then square_contains param norm_point else round_contains param norm_point

-- corner_contains: with `check_quadrant` true for any point outside the quadrant, else mirrored into it
unfoldable pub corner_contains_of : Quadrant → Point → Bool → Bool
corner_contains_of param p check_quadrant =
    let norm_point = div_of (sub_of p param.offset) param.signed_scale in
    if check_quadrant
    then (if lt norm_point.x zero || lt norm_point.y zero then true else norm_contains param norm_point)
    else norm_contains param (abs_point norm_point)

-- RoundSuperellipse::contains: all corners hold the point, or the one that describes all four
unfoldable pub contains_of : RoundSuperellipse → Point → Bool
contains_of shape p =
    if shape.all_corners_same then corner_contains_of shape.top_right p false
    else corner_contains_of shape.top_right p true
    && corner_contains_of shape.bottom_right p true
    && corner_contains_of shape.bottom_left p true
    && corner_contains_of shape.top_left p true
