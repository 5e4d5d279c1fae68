use Rattle.std.proofs.Common.{rules, refl}
use lib.Ieee.{Float, binary64, mul}
use lib.ListN.{take}
use Rattle.series.specs.Horner.{horner_of}
use Rattle.series.specs.Coefficients.{terms}
use Rattle.lanes.proofs.Places.{map-of_map, zip2-of_map_left}
use Rattle.exponential.specs.declared.Reduced.{Reduced}
use Rattle.exponential.proofs.Series.{exp_by}
use Rattle.exponential.proofs.scaled.Goals as goal

pub slice_bounds-horner-end : goal.slice_bounds-horner-end
unfolding terms
slice_bounds-horner-end g c = rw c.factorial_reciprocals-c.ensures

pub returns : goal.returns
returns g c =
    let cs = c.factorial_reciprocals-c in
    zip2-of_map_left (λ (h : Float) (p : Reduced). mul binary64 h p.power) (λ (p : Reduced). horner_of binary64 (take 14 cs.result) p.r) _
    (λ p. exp_by _ _ _ _ _ cs.ensures refl refl) c.args.p _ _
    (map-of_map _ (λ (p : Reduced). p.r) c.args.p _ _ (c.each.ensures.mapped _ (λ a b e. search rules)) c.horner-h.ensures)
    (c.pairwise.ensures _ (λ a b r e. search rules))
