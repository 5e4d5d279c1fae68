use borrow.Author.Tests.{ne_eqb}
use Rattle.ffi_path.specs.Lent.{point}
use Rattle.std.proofs.Common.{rules}
use Rattle.ffi_outline.proofs.Answers.{wrong_record, conic_needs}
use Rattle.ffi_outline.specs.Outlines.{conic_need_of}
use Rattle.ffi_outline.proofs.shackletongue_conic_need.Goals as goal

pub returns-then-need-ne-NEED_LENGTH : goal.returns-then-need-ne-NEED_LENGTH
unfolding conic_need_of
returns-then-need-ne-NEED_LENGTH c = rw (ne_eqb _ _ c.if-need-ne-NEED_LENGTH.true)

pub returns-in_default : goal.returns-in_default
returns-in_default c =
    let a = c.args in
    wrong_record a.counts.now a.places.now (point a.cx a.cy) (point a.x a.y) a.weight a.need.now _ c.if-need-ne-NEED_LENGTH.false c.load.ensures (search rules)

pub returns : goal.returns
returns c =
    let a = c.args in
    conic_needs a.counts.now a.places.now (point a.cx a.cy) (point a.x a.y) a.weight a.need.now _ c.if-need-ne-NEED_LENGTH.false c.load.ensures _ _ _ c.in-Some.is c.need.ensures c.store_need.ensures
