use borrow.Author.Tests.{ne_eqb}
use lib.ListN.{length}
use Rattle.ffi_outline.proofs.Answers.{outline_needs}
use Rattle.ffi_outline.specs.Outlines.{outline_need_of}
use Rattle.ffi_outline.proofs.shackletongue_outline_need.Goals as goal

pub returns-in_default : goal.returns-in_default
unfolding outline_need_of
returns-in_default c = rw (ne_eqb (length c.args.shape.now) 89 c.in_default.ensures.cases)

pub returns-then-need-ne-NEED_LENGTH : goal.returns-then-need-ne-NEED_LENGTH
unfolding outline_need_of
returns-then-need-ne-NEED_LENGTH c = rw (c.in-Some.ensures.cases.long, ne_eqb _ _ c.if-need-ne-NEED_LENGTH.true)

pub returns : goal.returns
returns c =
    let a = c.args in
    let e = c.in-Some.ensures.cases in
    outline_needs a.shape.now a.need.now _ _ _ e.long c.if-need-ne-NEED_LENGTH.false (rw e.same at c.shape_at.ensures) c.need.ensures c.store_need.ensures
