use mathlib.Core.Path.{ap₂, sym, ◌∙◌}
use native.Mathlib.Omega.{arith}
use Rattle.ieee.proofs.Tests.{both}
use Rattle.lanes.proofs.Places.{map-along_AllZip}
use Rattle.exponential.specs.Exponential.{exp_of}
use Rattle.exponential.proofs.Plains.{all_reduced}
use Rattle.exponential.proofs.exponentials_of_both.Goals as goal

pub each-p-requires : goal.each-p-requires
each-p-requires g c = (omega arith, (omega arith, all_reduced c.args.t (sym c.all_moderate.ensures ∙ (both _ _ c.if-all_moderate.true).0)))

pub each-q-requires : goal.each-q-requires
each-q-requires g c = (omega arith, (omega arith, all_reduced c.args.u (sym c.all_moderate-2.ensures ∙ (both _ _ c.if-all_moderate.true).1)))

pub returns-then-all_moderate : goal.returns-then-all_moderate
returns-then-all_moderate g c =
    ap₂ (λ a b. (a, b))
    (c.scaled.ensures ∙ map-along_AllZip _ _ exp_of (λ a b r. r) _ _ c.each-p.ensures.values)
    (c.scaled-then-all_moderate.ensures ∙ map-along_AllZip _ _ exp_of (λ a b r. r) _ _ c.each-q.ensures.values)
