use Rattle.std.proofs.Common.{◌≡◌, rules, map, refl, ◌∙◌}
use Rattle.std.proofs.lemmas.Simd.{zip2_of_maps}
use lib.Ieee.{Float, neg}
use Rattle.trigonometry.specs.Sine.{sin_cos_of, tan_of}
use Rattle.trigonometry.specs.declared.SinCos.{SinCos}
use Rattle.lanes.proofs.Places.{map-of_map, zip2-of_map_right}
use Rattle.ieee.specs.Binary32.{◌⊘◌, four}
use Rattle.octant.specs.declared.Octant.{Octant}
use Rattle.octant_curves.specs.Circle.{arc_points_of, circular_arc_points_of}
use Rattle.octant_curves.specs.declared.Turn.{Turn}
use Rattle.octant_curves.proofs.circular_arcs.Goals as goal

abbrev turn : SinCos → Float → Turn
turn t k = record { sin = t.sin; cos = t.cos; tan = k }

pub returns : goal.returns
unfolding circular_arc_points_of
returns g c =
    let o = c.args.o in
    let minus : c.each.result ≡ map (λ (p : Octant). neg p.circle_max_angle) o = c.each.ensures.mapped _ (λ a b e. search rules) in
    let quarters : c.each-2.result ≡ map (λ (p : Octant). p.circle_max_angle ⊘ four) o = c.each-2.ensures.mapped _ (λ a b e. search rules) in
    let turns = map-of_map sin_cos_of _ o _ _ minus c.sines_and_cosines-turns.ensures in
    let tans = map-of_map tan_of _ o _ _ quarters c.tangents-tans.ensures in
    let t = c.pairwise-t.ensures turn (λ a b r e. search rules) ∙ zip2_of_maps turn _ _ o turns tans in
    zip2-of_map_right (λ (p : Octant) (k : Turn). arc_points_of p k.sin k.cos k.tan) _ circular_arc_points_of (λ p. refl) o _ _ t (c.pairwise.ensures _ (λ a b r e. search rules))
