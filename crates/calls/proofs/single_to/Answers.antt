use mathlib.Core.List.{[], ◌∷◌}
use mathlib.Core.Path.{sym, ◌∙◌}
use native.Mathlib.Omega.{arith}
use Rattle.std.proofs.Common.{rules}
use Rattle.conic.specs.Vectors.{point_in}
use Rattle.stream.specs.declared.Element.{Element}
use Rattle.stream.specs.declared.Element.TheVariants.{Quad}
use Rattle.stream.specs.Stream.{State, state}
use Rattle.conic_writer.specs.Entries.{plain}
use Rattle.calls.proofs.Admission.{passed_on}
use Rattle.calls.proofs.Opened.{one-need, one-room, one-done, one-admitted, opened-refused, opened-counts}
use Rattle.calls.proofs.Held.{need_held, state_held}
use Rattle.calls.proofs.single_to.Goals as goal

pub returns-in_err-admit : goal.returns-in_err-admit
returns-in_err-admit c =
    let a = c.args in
    let e : Element = Quad (point_in a.ctrl 0) (point_in a.ends 2) in
    passed_on _ _ _ _ (search rules) ∙ opened-refused (state a.b a.verbs.now a.points.now) (plain e ∷ []) _ _ (c.opened_need.ensures ∙ one-need a.b e) (sym c.in_err-admit.was ∙ c.admit.ensures)

pub ensure_started-o-requires : goal.ensure_started-o-requires
ensure_started-o-requires c =
    let a = c.args in
    let r = one-room (state a.b a.verbs.now a.points.now) (Quad (point_in a.ctrl 0) (point_in a.ends 2)) _ _ _ c.opened_need.ensures c.admit.ensures c.in_ok-admit.was in
    record { verb_room = omega (arith, r); point_room = omega (arith, r) }

pub push_single-requires : goal.push_single-requires
push_single-requires c =
    let a = c.args in
    let s : State = state a.b a.verbs.now a.points.now in
    let k = opened-counts s _ c.ensure_started-o.ensures in
    let r = one-room s (Quad (point_in a.ctrl 0) (point_in a.ends 2)) _ _ _ c.opened_need.ensures c.admit.ensures c.in_ok-admit.was in
    (omega (arith, r, k.verbs, k.points, c.ensure_started-o.auto), omega (arith, r, k.verbs, k.points, c.ensure_started-o.auto))

pub returns-then-b-eq0 : goal.returns-then-b-eq0
returns-then-b-eq0 c =
    let a = c.args in
    let s : State = state a.b a.verbs.now a.points.now in
    let e : Element = Quad (point_in a.ctrl 0) (point_in a.ends 2) in
    one-done s e _ _ (one-admitted s e _ _ _ c.opened_need.ensures c.admit.ensures c.in_ok-admit.was) c.ensure_started-o.ensures c.push_single.ensures

pub returns-in_err-admit-2 : goal.returns-in_err-admit-2
returns-in_err-admit-2 c =
    let a = c.args in
    let e : Element = Quad (point_in a.ctrl 0) (point_in a.ends 2) in
    passed_on _ _ _ _ (search rules) ∙ opened-refused (state a.b a.verbs.now a.points.now) (plain e ∷ []) _ _ (need_held a.b 1 2 c.if-b-eq0.false ∙ one-need a.b e) (sym c.in_err-admit-2.was ∙ c.admit-2.ensures)

pub push_single-requires-2 : goal.push_single-requires-2
push_single-requires-2 c =
    let a = c.args in
    let r = one-room (state a.b a.verbs.now a.points.now) (Quad (point_in a.ctrl 0) (point_in a.ends 2)) _ _ _ (need_held a.b 1 2 c.if-b-eq0.false) c.admit-2.ensures c.in_ok-admit-2.was in
    (omega (arith, r), omega (arith, r))

pub returns : goal.returns
returns c =
    let a = c.args in
    let s : State = state a.b a.verbs.now a.points.now in
    let e : Element = Quad (point_in a.ctrl 0) (point_in a.ends 2) in
    one-done s e _ _ (one-admitted s e _ _ _ (need_held a.b 1 2 c.if-b-eq0.false) c.admit-2.ensures c.in_ok-admit-2.was) (state_held s c.if-b-eq0.false) c.push_single-2.ensures
