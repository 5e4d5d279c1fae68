use Rattle.std.proofs.Common.{rules, refl}
use lib.Ieee.{Float, binary64, mul}
use lib.ListN.{take}
use Rattle.series.specs.Horner.{horner_of}
use Rattle.series.specs.Coefficients.{terms}
use Rattle.lanes.proofs.Places.{map-of_map, zip2-of_map_right}
use Rattle.exponential.specs.declared.LogParts.{LogParts}
use Rattle.exponential.specs.Plain.{log_of, summed_of}
use Rattle.exponential.proofs.Series.{ln_by}
use Rattle.exponential.proofs.summed.Goals as goal

pub slice_bounds-horner-end : goal.slice_bounds-horner-end
unfolding terms
slice_bounds-horner-end g c = rw c.odd_reciprocals-c.ensures

pub returns : goal.returns
unfolding summed_of
returns g c =
    let cs = c.odd_reciprocals-c in
    zip2-of_map_right (λ (p : LogParts) (h : Float). log_of p.s p.e h) (λ (p : LogParts). horner_of binary64 (take 12 cs.result) (mul binary64 p.s p.s)) (λ (p : LogParts). summed_of p.s p.e)
    (λ p. ln_by _ _ _ _ _ cs.ensures refl refl) c.args.p _ _
    (map-of_map _ (λ (p : LogParts). mul binary64 p.s p.s) c.args.p _ _ (c.each.ensures.mapped _ (λ a b e. search rules)) c.horner-h.ensures)
    (c.pairwise.ensures _ (λ a b r e. search rules))
