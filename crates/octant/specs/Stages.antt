-- The octant solver in stages, each as far as the next power, so that several solves can be batched: together they are
-- the round case of `compute_octant_of`. Definitions only.
use Rattle.std.specs.Prelude.{Float}
use Rattle.geometry.specs.declared.Point.{Point}
use Rattle.geometry.specs.Point.{sub_of}
use Rattle.exponential.specs.Power.{pow_of}
use Rattle.ieee.specs.Binary32.{◌⊖◌, ◌⊗◌, ◌⊘◌, zero, two, one}
use Rattle.octant.specs.Degree.{n_and_xj_of}
use Rattle.octant.specs.Octant.{point, gap_factor, sqrt2, circle_center_through_of, angle_between_of}
use Rattle.octant.specs.declared.Fit.{Fit}
use Rattle.octant.specs.declared.Octant.{Octant}
use Rattle.octant.specs.declared.Solve.{Solve}
use Rattle.octant.specs.declared.OctantFrame.{OctantFrame}

-- the fit to the table, before the first power
unfoldable pub fit_of : Float → Float → Fit
fit_of a radius =
    let ratio = a ⊗ two ⊘ radius in
    let g = gap_factor ⊗ radius in
    let fit = n_and_xj_of ratio in
    record { g = g; n = fit.n; xj = fit.xj_over_a ⊗ a; xj_over_a = fit.xj_over_a }

unfoldable pub first_power_of : Fit → Float
first_power_of s = pow_of s.xj_over_a s.n

-- yj, from the first power
unfoldable pub height_of : Fit → Float → Float → Float
height_of s power a = pow_of (one ⊖ power) (one ⊘ s.n) ⊗ a

-- tan_phij
unfoldable pub slope_of : Fit → Float → Float
slope_of s yj = pow_of (s.xj ⊘ yj) (s.n ⊖ one)

-- the octant, from all three powers
unfoldable pub octant_by_powers : Point → Float → Fit → Float → Float → Octant
octant_by_powers center a s yj tan_phij =
    let xj = s.xj in
    let g = s.g in
    let d = (xj ⊖ tan_phij ⊗ yj) ⊘ (one ⊖ tan_phij) in
    let r = (a ⊖ d ⊖ g) ⊗ sqrt2 in
    let point_m = point (a ⊖ g) (a ⊖ g) in
    let point_j = point xj yj in
    let circle_center = circle_center_through_of point_j point_m r in
    let circle_max_angle = angle_between_of (sub_of point_m circle_center) (sub_of point_j circle_center) in
    record {
      offset = center;
      se_a = a;
      se_n = s.n;
      circle_start = point_j;
      circle_center = circle_center;
      circle_max_angle = circle_max_angle;
    }

-- the solve of an octant, as far as its last power
abbrev pub solve_of : OctantFrame → Solve
solve_of u =
    let s = fit_of u.a u.radius in
    let y = height_of s (first_power_of s) u.a in
    record { fit = s; at = record { y = y; slope = slope_of s y } }

-- point_m, where the circular arc ends
abbrev pub arc_end_of : Float → Float → Point
arc_end_of a g = point (a ⊖ g) (a ⊖ g)

-- the octant but for the angle of its circular arc
unfoldable pub octant_without_angle : OctantFrame → Solve → Octant
octant_without_angle u s =
    let d = (s.fit.xj ⊖ s.at.slope ⊗ s.at.y) ⊘ (one ⊖ s.at.slope) in
    let r = (u.a ⊖ d ⊖ s.fit.g) ⊗ sqrt2 in
    let point_j = point s.fit.xj s.at.y in
    let circle_center = circle_center_through_of point_j (arc_end_of u.a s.fit.g) r in
    record {
      offset = u.center;
      se_a = u.a;
      se_n = s.fit.n;
      circle_start = point_j;
      circle_center = circle_center;
      circle_max_angle = zero;
    }

-- the octant, where it is round
unfoldable pub round_octant_of : OctantFrame → Octant
round_octant_of u = let s = solve_of u in octant_by_powers u.center u.a s.fit s.at.y s.at.slope
