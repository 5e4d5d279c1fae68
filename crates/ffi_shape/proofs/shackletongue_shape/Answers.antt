-- `ffi_shape::shackletongue_shape` meets its contract where the lengths are right.
use Rattle.std.proofs.Common.{ap, ◌∙◌, List, Float}
use Rattle.shape.specs.Refusal.{shape_outcome_of}
use Rattle.ffi_shape.specs.Making.{shape_answer, answer_by}
use Rattle.ffi_shape.proofs.Answers.{made_as}
use Rattle.ffi_shape.proofs.shackletongue_shape.Goals as goal

pub returns-in-Ok : goal.returns-in-Ok
unfolding shape_outcome_of answer_by
returns-in-Ok c =
    ap (λ (fs : List Float). shape_answer 0 fs) c.store_shape.ensures.floats
    ∙ made_as c.args.sizes.now c.args.shape.now _ _ c.new.result _ c.if-sizes-ne-SIZES_LENGTH.false c.in-Some.ensures.cases.long c.bounds_at.ensures c.radii_at.ensures c.new.ensures c.in-Ok.is

pub returns-in-Err : goal.returns-in-Err
unfolding shape_outcome_of answer_by
returns-in-Err c =
    let e = c.in-Some.ensures.cases in
    rw (e.same, c.from.ensures, c.number.ensures) (made_as c.args.sizes.now c.args.shape.now _ _ c.new.result _ c.if-sizes-ne-SIZES_LENGTH.false e.long c.bounds_at.ensures c.radii_at.ensures c.new.ensures c.in-Err.is)
