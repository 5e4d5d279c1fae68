-- The Rust's `compute_quadrant` and `split`, in its order. Definitions only.
use Rattle.std.specs.Prelude.{Bool, ◌&&◌, ◌||◌, Float, if◌then◌else◌}
use Rattle.std.specs.Float.Ieee.{neg, eq, ne, lt}
use Rattle.ieee.specs.Basic.{abs_of, min_of}
use Rattle.geometry.specs.declared.Point.{Point}
use Rattle.geometry.specs.Point.{sub_of, div_of, shrink_of, abs_point}
use Rattle.ieee.specs.Binary32.{◌⊕◌, ◌⊖◌, ◌⊗◌, ◌⊘◌, zero, two, one}
use Rattle.octant.specs.Octant.{point, compute_octant_of}
use Rattle.octant.specs.declared.Octant.{Octant}
use Rattle.octant.specs.declared.OctantFrame.{OctantFrame}
use Rattle.quadrant.specs.declared.Frame.{Frame}
use Rattle.quadrant.specs.declared.Quadrant.{Quadrant}

-- the radii, each at most as great as the corner's extent
abbrev pub lesser_radii : Point → Point → Point
lesser_radii in_radii corner_vector =
    let x = min_of (abs_of in_radii.x) (abs_of corner_vector.x) in
    let y = min_of (abs_of in_radii.y) (abs_of corner_vector.y) in
    point x y

-- how far the corner is stretched from a circular one: nothing where the lesser radius is zero
unfoldable pub forward_scale_of : Point → Float → Point
forward_scale_of radii norm_radius = if eq norm_radius zero then point one one else shrink_of radii norm_radius

-- the sign in place of a NaN, and of nothing else
unfoldable pub or_sign_of : Float → Float → Float
or_sign_of raw sign = if ne raw raw then sign else raw

-- compute_quadrant
unfoldable pub compute_quadrant_of : Point → Point → Point → Point → Quadrant
compute_quadrant_of center corner in_radii sign =
    let corner_vector = sub_of corner center in
    let radii = lesser_radii in_radii corner_vector in
    let norm_radius = min_of radii.x radii.y in
    let forward_scale = forward_scale_of radii norm_radius in
    let norm_half_size = div_of (abs_point corner_vector) forward_scale in
    let raw = div_of corner_vector norm_half_size in
    let signed_scale = point (or_sign_of raw.x sign.x) (or_sign_of raw.y sign.y) in
    let c = norm_half_size.x ⊖ norm_half_size.y in
    record {
      offset = center;
      signed_scale = signed_scale;
      top = compute_octant_of (point zero (neg c)) norm_half_size.x norm_radius;
      right = compute_octant_of (point c zero) norm_half_size.y norm_radius;
    }

-- ---- compute_quadrant in two steps, so that the octants of several corners can be solved in one batch:
-- `quadrant_of` of a corner's frame is its quadrant

-- the corner before its octants are solved
unfoldable pub frame_of : Point → Point → Point → Point → Frame
frame_of center corner in_radii sign =
    let corner_vector = sub_of corner center in
    let radii = lesser_radii in_radii corner_vector in
    let norm_radius = min_of radii.x radii.y in
    let forward_scale = forward_scale_of radii norm_radius in
    let norm_half_size = div_of (abs_point corner_vector) forward_scale in
    let raw = div_of corner_vector norm_half_size in
    record {
      offset = center;
      signed_scale = point (or_sign_of raw.x sign.x) (or_sign_of raw.y sign.y);
      half_size = norm_half_size;
      radius = norm_radius;
    }

-- where the superellipses of its octants have their centers
unfoldable pub top_offset_of : Frame → Point
top_offset_of f = point zero (neg (f.half_size.x ⊖ f.half_size.y))

unfoldable pub right_offset_of : Frame → Point
right_offset_of f = point (f.half_size.x ⊖ f.half_size.y) zero

-- the octants, unsolved
abbrev pub top_octant_of : Frame → OctantFrame
top_octant_of f = record { center = top_offset_of f; a = f.half_size.x; radius = f.radius }

abbrev pub right_octant_of : Frame → OctantFrame
right_octant_of f = record { center = right_offset_of f; a = f.half_size.y; radius = f.radius }

-- the quadrant with given octants
abbrev pub quadrant_with : Frame → Octant → Octant → Quadrant
quadrant_with f top right = record { offset = f.offset; signed_scale = f.signed_scale; top = top; right = right }

-- the quadrant of a frame
unfoldable pub quadrant_of : Frame → Quadrant
quadrant_of f =
    record {
      offset = f.offset;
      signed_scale = f.signed_scale;
      top = compute_octant_of (top_offset_of f) f.half_size.x f.radius;
      right = compute_octant_of (right_offset_of f) f.half_size.y f.radius;
    }

-- both are zero, of either sign
unfoldable pub both_zero : Float → Float → Bool
both_zero a b = eq a zero && eq b zero

-- split: where two adjacent corners divide the side they share, in proportion to their radii
unfoldable pub split_of : Float → Float → Float → Float → Float
split_of low high ratio_low ratio_high =
    if both_zero ratio_low ratio_high then (low ⊕ high) ⊘ two
    else (low ⊗ ratio_high ⊕ high ⊗ ratio_low) ⊘ (ratio_low ⊕ ratio_high)

-- a degree below 2 on either side makes the corner square; a NaN is not below
unfoldable pub square_corner : Quadrant → Bool
square_corner param = lt param.top.se_n two || lt param.right.se_n two
