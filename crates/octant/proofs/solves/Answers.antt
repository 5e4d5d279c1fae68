use Rattle.std.proofs.Common.{◌≡◌, rules, map, refl, ◌∙◌}
use Rattle.std.proofs.lemmas.Simd.{zip2_of_maps}
use lib.Ieee.{Float}
use Rattle.exponential.specs.Power.{pow_of}
use Rattle.lanes.proofs.Places.{map-of_map, zip2-of_map_left}
use Rattle.ieee.specs.Binary32.{◌⊖◌, ◌⊗◌, ◌⊘◌, one}
use Rattle.octant.specs.Stages.{fit_of, first_power_of, height_of, slope_of}
use Rattle.octant.specs.declared.Fit.{Fit}
use Rattle.octant.specs.declared.Meeting.{Meeting}
use Rattle.octant.specs.declared.Solve.{Solve}
use Rattle.octant.specs.declared.OctantFrame.{OctantFrame}
use Rattle.octant.proofs.solves.Goals as goal

abbrev fitted : OctantFrame → Fit
fitted u = fit_of u.a u.radius

abbrev power : OctantFrame → Float
power u = pow_of (fitted u).xj_over_a (fitted u).n

abbrev root : OctantFrame → Float
root u = pow_of (one ⊖ power u) (one ⊘ (fitted u).n)

abbrev height : OctantFrame → Float
height u = root u ⊗ u.a

abbrev slope : OctantFrame → Float
slope u = pow_of ((fitted u).xj ⊘ height u) ((fitted u).n ⊖ one)

abbrev meet : Float → Float → Meeting
meet y k = record { y = y; slope = k }

abbrev together : Fit → Meeting → Solve
together f m = record { fit = f; at = m }

pub returns : goal.returns
unfolding first_power_of height_of slope_of
returns g c =
    let u = c.args.u in
    let s : c.each-s.result ≡ map fitted u = c.each-s.ensures.mapped _ (λ a b e. search rules) in
    let n = map-of_map (λ (f : Fit). f.n) fitted u _ _ s (c.each-n.ensures.mapped _ (λ a b e. search rules)) in
    let bases = map-of_map (λ (f : Fit). f.xj_over_a) fitted u _ _ s (c.each.ensures.mapped _ (λ a b e. search rules)) in
    let first = c.powers-first.ensures ∙ zip2_of_maps pow_of _ _ u bases n in
    let rests = map-of_map (λ (x : Float). one ⊖ x) power u _ _ first (c.each-rests.ensures.mapped _ (λ a b e. search rules)) in
    let inverses = map-of_map (λ (x : Float). one ⊘ x) _ u _ _ n (c.each-2.ensures.mapped _ (λ a b e. search rules)) in
    let roots = c.powers-roots.ensures ∙ zip2_of_maps pow_of _ _ u rests inverses in
    let y : c.pairwise-y.result ≡ map height u = zip2-of_map_left (λ (r : Float) (v : OctantFrame). r ⊗ v.a) root height (λ v. refl) u _ _ roots (c.pairwise-y.ensures _ (λ a b r e. search rules)) in
    let slants = c.pairwise-bases.ensures (λ (f : Fit) (x : Float). f.xj ⊘ x) (λ a b r e. search rules) ∙ zip2_of_maps (λ (f : Fit) (x : Float). f.xj ⊘ x) fitted height u s y in
    let less = map-of_map (λ (x : Float). x ⊖ one) _ u _ _ n (c.each-3.ensures.mapped _ (λ a b e. search rules)) in
    let slopes = c.powers-slopes.ensures ∙ zip2_of_maps pow_of _ _ u slants less in
    let at = c.pairwise-at.ensures meet (λ a b r e. search rules) ∙ zip2_of_maps meet height slope u y slopes in
    c.pairwise.ensures together (λ a b r e. search rules) ∙ zip2_of_maps together fitted _ u s at
