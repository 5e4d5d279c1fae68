use mathlib.Core.Path.{sym, ap, ◌∙◌}
use native.Mathlib.Omega.{arith}
use Rattle.stream.specs.Stream.{State, state, push_all}
use Rattle.stream.proofs.Pushed.{push_all-one}
use Rattle.conic_writer.proofs.Entries.{lowered_line}
use Rattle.conic_writer.proofs.Writing.{curve_room, curve-pushed}
use Rattle.conic_writer.proofs.push_unmarked.Goals as goal

pub push-requires : goal.push-requires
push-requires c =
    let h = lowered_line c.args.l _ c.in-Line.is in
    omega (arith, c.requires, h.many, h.size)

pub push_quads-count-requires : goal.push_quads-count-requires
push_quads-count-requires c =
    let r = curve_room c.in-Curve.is c.ends.ensures c.ctrl.ensures c.args.b c.args.verbs.now c.args.points.now c.requires in
    record { verb_room = r.0; point_room = r.1 }

pub after_quads-requires : goal.after_quads-requires
after_quads-requires c =
    let r = curve_room c.in-Curve.is c.ends.ensures c.ctrl.ensures c.args.b c.args.verbs.now c.args.points.now c.requires in
    let n = c.push_quads-count.ensures.count in
    record { verbs = omega (arith, r.0, c.well_formed, n); points = omega (arith, r.1, c.well_formed, n) }

pub returns-in-Line : goal.returns-in-Line
returns-in-Line c =
    let a = c.args in
    let s : State = state a.b a.verbs.now a.points.now in
    c.push.ensures ∙ sym (ap (push_all s) (lowered_line a.l _ c.in-Line.is).elements ∙ push_all-one s _)

pub returns-in-Curve : goal.returns-in-Curve
returns-in-Curve c =
    let a = c.args in
    let e = c.push_quads-count.ensures in
    curve-pushed c.in-Curve.is c.ends.ensures c.ctrl.ensures a.b _ _ a.verbs.now _ a.points.now _ c.requires c.after_quads.ensures e.count e.verbs_after e.points_after
