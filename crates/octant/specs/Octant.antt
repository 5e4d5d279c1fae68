-- The octant solver: the Rust's `circle_center_through`, `angle_between` and `compute_octant`, in its order.
-- Definitions only.
use Rattle.std.specs.Prelude.{Float, if◌then◌else◌}
use Rattle.std.specs.Float.{binary32}
use Rattle.std.specs.Float.Ieee.{of_bits, neg, le}
use Rattle.ieee.specs.Sqrt.{sqrt_of}
use Rattle.geometry.specs.declared.Point.{Point}
use Rattle.geometry.specs.Point.{add_of, sub_of, shrink_of, length_of, normalize_of}
use Rattle.exponential.specs.Power.{pow_of}
use Rattle.trigonometry.specs.Arctangent.{atan2_of}
use Rattle.ieee.specs.Binary32.{◌⊖◌, ◌⊗◌, ◌⊘◌, zero, two, one}
use Rattle.octant.specs.Degree.{n_and_xj_of}
use Rattle.octant.specs.declared.Octant.{Octant}

-- Vec2::new
abbrev pub point : Float → Float → Point
point x y = record { x = x; y = y }

-- the radius up to which a corner is square
abbrev pub close_enough : Float
close_enough = of_bits binary32 0x3a83_126f  -- 0.001

-- 1 - cos(pi/4)
abbrev pub gap_factor : Float
gap_factor = of_bits binary32 0x3e95_f61a  -- 0.29289322

-- SQRT_2
abbrev pub sqrt2 : Float
sqrt2 = of_bits binary32 0x3fb5_04f3  -- 1.4142135

-- circle_center_through: the center of the circle of radius r through both a and b
unfoldable pub circle_center_through_of : Point → Point → Float → Point
circle_center_through_of a b r =
    let a_to_b = sub_of b a in
    let m = shrink_of (add_of a b) two in
    let c_to_m = point (neg a_to_b.y) a_to_b.x in
    let distance_am = length_of a_to_b ⊘ two in
    let distance_cm = sqrt_of binary32 (r ⊗ r ⊖ distance_am ⊗ distance_am) in
    let unit = normalize_of c_to_m in
    sub_of m (point (distance_cm ⊗ unit.x) (distance_cm ⊗ unit.y))

-- angle_between: the signed angle from one vector to another
unfoldable pub angle_between_of : Point → Point → Float
angle_between_of from to = atan2_of to.y to.x ⊖ atan2_of from.y from.x

-- compute_octant: a corner whose radius is at most 1e-3 is square, of degree 0; a NaN is not at most it
unfoldable pub compute_octant_of : Point → Float → Float → Octant
compute_octant_of center a radius =
    if le radius close_enough
    then record {
      offset = center;
      se_a = a;
      se_n = zero;
      circle_start = point a a;
      circle_center = point zero zero;
      circle_max_angle = zero;
    }
    else (let ratio = a ⊗ two ⊘ radius in
    let g = gap_factor ⊗ radius in
    let fit = n_and_xj_of ratio in
    let n = fit.n in
    let xj = fit.xj_over_a ⊗ a in
    let yj = pow_of (one ⊖ pow_of fit.xj_over_a n) (one ⊘ n) ⊗ a in
    let tan_phij = pow_of (xj ⊘ yj) (n ⊖ one) in
    let d = (xj ⊖ tan_phij ⊗ yj) ⊘ (one ⊖ tan_phij) in
    let r = (a ⊖ d ⊖ g) ⊗ sqrt2 in
    let point_m = point (a ⊖ g) (a ⊖ g) in
    let point_j = point xj yj in
    let circle_center = circle_center_through_of point_j point_m r in
    let circle_max_angle = angle_between_of (sub_of point_m circle_center) (sub_of point_j circle_center) in
    record {
      offset = center;
      se_a = a;
      se_n = n;
      circle_start = point_j;
      circle_center = circle_center;
      circle_max_angle = circle_max_angle;
    })

-- the octant with another offset
unfoldable pub with_offset : Octant → Point → Octant
with_offset octant center =
    record {
      offset = center;
      se_a = octant.se_a;
      se_n = octant.se_n;
      circle_start = octant.circle_start;
      circle_center = octant.circle_center;
      circle_max_angle = octant.circle_max_angle;
    }
