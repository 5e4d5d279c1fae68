use mathlib.Core.Path.{refl}
use Rattle.std.proofs.Common.{rules}
use Rattle.stream.specs.Stream.{State, state}
use Rattle.outline.proofs.OutlineCall.{outline_refused, outline_admitted, outline_room, outline_done}
use Rattle.outline.proofs.add_to.Goals as goal

pub returns-in_err-admit_outline : goal.returns-in_err-admit_outline
returns-in_err-admit_outline c =
    let a = c.args in
    let s : State = state a.b a.verbs.now a.points.now in
    let d = c.draw-o in
    outline_refused s a.shape d.result d.ensures _ _ _ _ refl c.admit_outline.ensures c.in_err-admit_outline.was (search rules)

pub push_outline-requires : goal.push_outline-requires
push_outline-requires c =
    let a = c.args in
    let s : State = state a.b a.verbs.now a.points.now in
    let d = c.draw-o in
    outline_room s a.shape d.result d.ensures (outline_admitted s a.shape d.result d.ensures _ _ _ refl c.admit_outline.ensures c.in_ok-admit_outline.was)

pub returns : goal.returns
returns c =
    let a = c.args in
    let s : State = state a.b a.verbs.now a.points.now in
    let d = c.draw-o in
    outline_done s a.shape d.result d.ensures _ (outline_admitted s a.shape d.result d.ensures _ _ _ refl c.admit_outline.ensures c.in_ok-admit_outline.was) c.push_outline.ensures
