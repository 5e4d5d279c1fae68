use mathlib.Core.Path.{◌∙◌}
use borrow.Author.Tests.{ne_eqb}
use lib.ListN.{length}
use Rattle.ffi_shape.proofs.Answers.{from_bool-is}
use Rattle.ffi_outline.specs.Outlines.{consistency_of}
use Rattle.ffi_outline.proofs.shackletongue_is_consistent.Goals as goal

pub returns-then-sizes-ne-SIZES_LENGTH : goal.returns-then-sizes-ne-SIZES_LENGTH
unfolding consistency_of
returns-then-sizes-ne-SIZES_LENGTH c = rw (ne_eqb _ _ c.if-sizes-ne-SIZES_LENGTH.true)

pub returns-in_default : goal.returns-in_default
unfolding consistency_of
returns-in_default c = rw (c.if-sizes-ne-SIZES_LENGTH.false, ne_eqb (length c.args.shape.now) 89 c.in_default.ensures.cases)

pub returns : goal.returns
unfolding consistency_of
returns c =
    let e = c.in-Some.ensures.cases in
    let shape = rw e.same at c.shape_at.ensures in
    rw (c.if-sizes-ne-SIZES_LENGTH.false, e.long, ← c.bounds_at.ensures, ← shape, ← c.is_consistent.ensures) (c.from.ensures ∙ from_bool-is _)
