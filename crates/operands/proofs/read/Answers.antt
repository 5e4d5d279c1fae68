-- `operands::read` meets its contract. Assumes nothing.
use Rattle.std.proofs.Common.{None, refl, sym, ◌∙◌}
use Rattle.operands.specs.Operands.{operands_of, with_next}
use Rattle.operands.proofs.Reading.{none_left, one_more, stuck}
use Rattle.operands.proofs.read.Goals as goal

pub loop-word-init : goal.loop-word-init
unfolding operands_of
loop-word-init c = rw c.new-x.ensures

pub returns-in_err-push_next : goal.returns-in_err-push_next
unfolding with_next
returns-in_err-push_next c =
    let w = c.in-Some.ensures in
    rw c.from_residual.ensures
    (sym (c.loop-word.invariant ∙ one_more with_next _ _ _ _ _ w.word w.rest w.some c.in_err-push_next.ensures ∙ stuck with_next None (λ w. refl) _ _))

pub loop-word-preserved : goal.loop-word-preserved
loop-word-preserved c =
    let w = c.in-Some.ensures in
    c.loop-word.invariant ∙ one_more with_next _ _ _ _ _ w.word w.rest w.some c.in_ok-push_next.ensures

pub returns : goal.returns
returns c = sym (c.loop-word.invariant ∙ none_left with_next _ _ _ c.in_default.ensures.none)
