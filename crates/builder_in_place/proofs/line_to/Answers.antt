use Rattle.std.proofs.Common.{rules}
use Rattle.stream.specs.Stream.{state}
use Rattle.calls.specs.declared.Call.TheVariants as call
use Rattle.builder_in_place.proofs.Refused.{outcome-kept, record_is_kept}
use Rattle.builder_in_place.proofs.line_to.Goals as goal

pub returns-in_err-b-clause-outcome : goal.returns-in_err-b-clause-outcome
returns-in_err-b-clause-outcome c =
    let a = c.args in
    outcome-kept (state a.b.now a.verbs.now a.points.now) (call.LineTo a.p) _ _ _ _ (search rules) c.in_err-b.ensures

pub returns-in_err-b-clause-refused : goal.returns-in_err-b-clause-refused
returns-in_err-b-clause-refused c =
    let a = c.args in
    record_is_kept (state a.b.now a.verbs.now a.points.now) (call.LineTo a.p) _ _ _ _ (search rules) c.in_err-b.ensures
