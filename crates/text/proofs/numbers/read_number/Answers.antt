-- `text::numbers::read_number` meets its contract. Assumes nothing.
use Rattle.std.proofs.Common.{sym, ◌∙◌}
use Rattle.text.proofs.Spelling.{next_digit, no_digit, no_digits_left}
use Rattle.text.proofs.numbers.read_number.Goals as goal

pub returns-in_err-n : goal.returns-in_err-n
returns-in_err-n c =
    c.from_residual.ensures ∙ sym (c.loop-b.invariant ∙ no_digit _ _ _ _ c.loop-b-test.true c.in_err-n.ensures)

pub loop-b-preserved : goal.loop-b-preserved
loop-b-preserved c = c.loop-b.invariant ∙ next_digit _ _ _ _ c.loop-b-test.true _ c.in_ok-n.ensures

pub returns : goal.returns
returns c = sym (c.loop-b.invariant ∙ no_digits_left _ _ _ _ c.loop-b-test.false)
