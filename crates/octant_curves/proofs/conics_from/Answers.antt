use Rattle.std.proofs.Common.{◌≡◌, rules, map, ap, refl, ◌∙◌}
use Rattle.std.proofs.lemmas.Simd.{zip2_of_maps}
use lib.Ieee.{Float, neg}
use Rattle.geometry.specs.declared.Point.{Point}
use Rattle.exponential.specs.Power.{pow_of}
use Rattle.lanes.proofs.Places.{map-of_map, zip2-of_map_right}
use Rattle.ieee.specs.Binary32.{◌⊖◌, ◌⊘◌, one}
use Rattle.octant_curves.specs.Conics.{conics_by_slopes}
use Rattle.octant_curves.specs.declared.SuperellipseConics.{SuperellipseConics}
use Rattle.octant_curves.specs.Octants.{ratio_of, meeting_point_of, meeting_x_of, conics_from}
use Rattle.octant_curves.specs.declared.Start.{Start}
use Rattle.octant_curves.specs.declared.Slopes.{Slopes}
use Rattle.octant_curves.specs.declared.End.{End}
use Rattle.octant_curves.proofs.conics_from.Goals as goal

abbrev h_of : Start → Point
h_of t = meeting_point_of t (meeting_x_of t)

abbrev both : Float → Float → Slopes
both h j = record { at_h = h; at_j = j }

abbrev end : Point → Slopes → End
end h k = record { h = h; slopes = k }

abbrev finish : Start → End → SuperellipseConics
finish t e = conics_by_slopes t.octant t.factors e.h (neg e.slopes.at_h) (neg e.slopes.at_j)

pub returns : goal.returns
returns g c =
    let s = c.args.s in
    let n : c.each-n.result ≡ map (λ (t : Start). t.octant.se_n) s = c.each-n.ensures.mapped _ (λ a b e. search rules) in
    let y : c.each.result ≡ map (λ (t : Start). t.y) s = c.each.ensures.mapped _ (λ a b e. search rules) in
    let less = map-of_map (λ (x : Float). x ⊖ one) _ s _ _ n (c.each-less.ensures.mapped _ (λ a b e. search rules)) in
    let starts : c.each-at_circle.result ≡ map (λ (t : Start). ratio_of t.octant.circle_start) s = c.each-at_circle.ensures.mapped _ (λ a b e. search rules) in
    let powers = ap (λ r. r.0) c.powers_of_both-powers.ensures ∙ zip2_of_maps pow_of _ _ s y n in
    let at_j = ap (λ r. r.1) c.powers_of_both-powers.ensures ∙ zip2_of_maps pow_of _ _ s starts less in
    let rests = map-of_map (λ (x : Float). one ⊖ x) _ s _ _ powers (c.each-rests.ensures.mapped _ (λ a b e. search rules)) in
    let inverses = map-of_map (λ (x : Float). one ⊘ x) _ s _ _ n (c.each-2.ensures.mapped _ (λ a b e. search rules)) in
    let roots = c.powers-roots.ensures ∙ zip2_of_maps pow_of _ _ s rests inverses in
    let h : c.pairwise-h.result ≡ map h_of s = zip2-of_map_right meeting_point_of meeting_x_of h_of (λ a. refl) s _ _ roots (c.pairwise-h.ensures meeting_point_of (λ a b r e. search rules)) in
    let slants = map-of_map ratio_of h_of s _ _ h (c.each-3.ensures.mapped ratio_of (λ a b e. search rules)) in
    let at_h = c.powers-at_h.ensures ∙ zip2_of_maps pow_of _ _ s slants less in
    let slopes = c.pairwise-slopes.ensures both (λ a b r e. search rules) ∙ zip2_of_maps both _ _ s at_h at_j in
    let ends = c.pairwise-ends.ensures end (λ a b r e. search rules) ∙ zip2_of_maps end h_of _ s h slopes in
    zip2-of_map_right finish _ conics_from (λ a. refl) s _ _ ends (c.pairwise.ensures finish (λ a b r e. search rules))
