use Rattle.std.proofs.Common.{◌∙◌}
use lib.Ieee.{Float}
use Rattle.lanes.proofs.Places.{map-along_AllZip}
use Rattle.ieee.specs.Basic.{widen_of}
use Rattle.exponential.specs.Logarithm.{ln_of}
use Rattle.exponential.proofs.logarithms.Goals as goal

pub returns : goal.returns
returns g c = c.summed.ensures ∙ map-along_AllZip _ _ (λ (x : Float). ln_of (widen_of x)) (λ a b r. r) _ _ c.each.ensures.values
