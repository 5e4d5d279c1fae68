use Rattle.std.proofs.Common.{◌≡◌, rules, map, ◌∙◌}
use Rattle.std.proofs.lemmas.Simd.{zip2_of_maps}
use lib.Ieee.{Float, binary64, mul}
use Rattle.series.specs.Horner.{horner_of}
use Rattle.series.specs.Coefficients.{terms}
use Rattle.lanes.proofs.Places.{map-of_map, zip2-of_map_right}
use Rattle.trigonometry.specs.Arctangent.{arctangent_term, arctangent_of}
use Rattle.trigonometry.proofs.Choices.{reduced_of, series, raised_of, arctangent_by}
use Rattle.trigonometry.proofs.arctangents.Goals as goal

abbrev square : Float → Float
square s = mul binary64 s s

pub returns : goal.returns
returns g c =
    let r = c.args.r in
    let s : c.each-s.result ≡ map reduced_of r = c.each-s.ensures.mapped _ (λ a b e. search rules) in
    let z = map-of_map square reduced_of r _ _ s (c.each.ensures.mapped _ (λ a b e. search rules)) in
    let h : c.horner-h.result ≡ map (λ (x : Float). horner_of binary64 (terms arctangent_term 26) (square (reduced_of x))) r = map-of_map _ _ r _ _ z (rw c.arctangent_coefficients-cs.ensures at c.horner-h.ensures) in
    let v = c.pairwise-v.ensures (mul binary64) (λ a b r e. search rules) ∙ zip2_of_maps (mul binary64) reduced_of _ r s h in
    zip2-of_map_right raised_of (λ (x : Float). series (reduced_of x)) arctangent_of arctangent_by r _ _ v (c.pairwise.ensures _ (λ a b r e. search rules))
