use Rattle.std.proofs.Common.{rules}
use Rattle.calls.specs.declared.Call.TheVariants as call
use Rattle.ffi_path.specs.Lent.{point}
use Rattle.ffi_path.proofs.Lending.{step_wrong_lengths, holds_record, plain_step}
use Rattle.ffi_path.proofs.shackletongue_cubic_to.Goals as goal

pub returns-in_default : goal.returns-in_default
returns-in_default c = let a = c.args in step_wrong_lengths (call.CubicTo (point a.ax a.ay) (point a.bx a.by) (point a.x a.y)) a.counts.now a.places.now a.verbs.now a.points.now _ c.load.ensures (search rules)

pub store_answer-requires : goal.store_answer-requires
store_answer-requires c = let a = c.args in holds_record (call.CubicTo (point a.ax a.ay) (point a.bx a.by) (point a.x a.y)) a.counts.now a.places.now a.verbs.now a.points.now _ c.load.ensures _ c.in-Some.is

pub returns : goal.returns
returns c =
    let a = c.args in
    plain_step (call.CubicTo (point a.ax a.ay) (point a.bx a.by) (point a.x a.y)) a.counts.now a.places.now a.verbs.now a.points.now _ c.load.ensures _ c.in-Some.is c.cubic_to.result _ _ _ _ c.cubic_to.ensures (search rules) (c.store_answer.ensures _ _)
