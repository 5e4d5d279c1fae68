use Rattle.std.proofs.Common.{sym, ◌∙◌}
use native.Mathlib.Omega.{arith}
use Rattle.lanes.proofs.Places.{map-along_AllZip}
use Rattle.exponential.specs.Exponential.{exp_of}
use Rattle.exponential.proofs.Plains.{all_reduced}
use Rattle.exponential.proofs.exponentials.Goals as goal

pub each-requires : goal.each-requires
each-requires g c = (omega arith, (omega arith, all_reduced c.args.t (sym c.all_moderate.ensures ∙ c.if-all_moderate.true)))

pub returns-then-all_moderate : goal.returns-then-all_moderate
returns-then-all_moderate g c = c.scaled.ensures ∙ map-along_AllZip _ _ exp_of (λ a b r. r) _ _ c.each.ensures.values
