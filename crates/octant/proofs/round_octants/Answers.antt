use Rattle.std.proofs.Common.{◌≡◌, rules, map, refl, ◌∙◌}
use Rattle.std.proofs.lemmas.Simd.{zip2_of_maps}
use lib.Ieee.{Float}
use Rattle.geometry.specs.declared.Point.{Point}
use Rattle.geometry.specs.Point.{sub_of}
use Rattle.lanes.proofs.Places.{map-of_map, zip2-of_map_right}
use Rattle.octant.specs.Octant.{angle_between_of}
use Rattle.octant.specs.Stages.{solve_of, arc_end_of, octant_without_angle, round_octant_of, octant_by_powers}
use Rattle.octant.specs.declared.Octant.{Octant}
use Rattle.octant.specs.declared.Solve.{Solve}
use Rattle.octant.specs.declared.OctantFrame.{OctantFrame}
use Rattle.octant.proofs.round_octants.Goals as goal

abbrev still : OctantFrame → Octant
still u = octant_without_angle u (solve_of u)

abbrev end_from : Octant → Solve → Point
end_from o s = sub_of (arc_end_of o.se_a s.fit.g) o.circle_center

abbrev start_from : Octant → Point
start_from o = sub_of o.circle_start o.circle_center

abbrev by : Octant → Float → Octant
by o angle = record { offset = o.offset; se_a = o.se_a; se_n = o.se_n; circle_start = o.circle_start; circle_center = o.circle_center; circle_max_angle = angle }

pub returns : goal.returns
unfolding round_octant_of octant_by_powers octant_without_angle
returns g c =
    let u = c.args.u in
    let s = c.solves-s.ensures in
    let o : c.pairwise-o.result ≡ map still u = zip2-of_map_right octant_without_angle solve_of still (λ u. refl) u _ _ s (c.pairwise-o.ensures _ (λ a b r e. search rules)) in
    let from = c.pairwise-from.ensures end_from (λ a b r e. search rules) ∙ zip2_of_maps end_from still solve_of u o s in
    let to = map-of_map start_from still u _ _ o (c.each-to.ensures.mapped _ (λ a b e. search rules)) in
    let angles = c.angles_between-angles.ensures ∙ zip2_of_maps angle_between_of _ _ u from to in
    c.pairwise.ensures by (λ a b r e. search rules) ∙ zip2_of_maps by still _ u o angles
