use lib.ListN.{length}
use Rattle.octant.specs.Octant.{point}
use Rattle.ffi_shape.proofs.Answers.{answered}
use borrow.Author.Tests.{ne_eqb}
use Rattle.ffi_shape.specs.Making.{holds_of}
use Rattle.ffi_shape.proofs.shackletongue_contains.Goals as goal

pub returns-in_default : goal.returns-in_default
unfolding holds_of
returns-in_default c = rw (ne_eqb (length c.args.shape.now) 89 c.in_default.ensures.cases)

pub returns : goal.returns
returns c =
    let a = c.args in
    let e = c.in-Some.ensures.cases in
    answered a.shape.now (point a.x a.y) _ _ e.long c.from.ensures (rw e.same at c.contains.ensures)
