-- `operands::push` meets its contract. Assumes nothing.
use Rattle.std.proofs.Common.{sym, ◌∙◌}
use Rattle.operands.proofs.Reading.{none_left, one_more, stuck}
use Rattle.operands.proofs.appending.push.Goals as goal

pub returns-in_err-held : goal.returns-in_err-held
returns-in_err-held g c =
    let w = c.in-Some.ensures in
    let step = g.T.Element.with_word in
    rw c.from_residual.ensures
    (sym (c.loop-word.invariant ∙ one_more step _ _ _ _ _ w.word w.rest w.some (sym c.in_err-held.ensures) ∙ stuck step _ (λ w. g.met.T.Element.stays _ w) _ _))

pub loop-word-preserved : goal.loop-word-preserved
loop-word-preserved g c =
    let w = c.in-Some.ensures in
    c.loop-word.invariant ∙ one_more g.T.Element.with_word _ _ _ _ _ w.word w.rest w.some (sym c.in_ok-held.ensures)

pub returns : goal.returns
returns g c = sym (c.loop-word.invariant ∙ none_left g.T.Element.with_word _ _ _ c.in_default.ensures.none)
