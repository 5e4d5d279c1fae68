use mathlib.Core.Path.{ap₂, ◌∙◌}
use lib.Ieee.{Float}
use Rattle.lanes.proofs.Places.{map-along_AllZip}
use Rattle.ieee.specs.Basic.{widen_of}
use Rattle.exponential.specs.Logarithm.{ln_of}
use Rattle.exponential.proofs.logarithms_of_both.Goals as goal

pub returns : goal.returns
returns g c =
    ap₂ (λ a b. (a, b))
    (c.summed.ensures ∙ map-along_AllZip _ _ (λ (x : Float). ln_of (widen_of x)) (λ a b r. r) _ _ c.each-p.ensures.values)
    (c.summed-2.ensures ∙ map-along_AllZip _ _ (λ (x : Float). ln_of (widen_of x)) (λ a b r. r) _ _ c.each-q.ensures.values)
