use mathlib.Core.Path.{refl, ◌∙◌}
use native.Mathlib.Omega.{arith}
use Rattle.stream.specs.declared.Element.TheVariants as Element
use Rattle.stream.specs.Stream.{state}
use Rattle.calls.specs.declared.Call.TheVariants.{MoveTo, LineTo, Close}
use Rattle.calls.specs.Calls.{entries_of}
use Rattle.outline_corners.specs.Calls.{calls_in}
use Rattle.outline_need.proofs.Along.{room_first}
use Rattle.outline.proofs.Pushed.{room-plain, leads, leads-plain, leads-then, room-then}
use Rattle.outline.proofs.push_outline.Goals as goal

pub push-b1-requires : goal.push-b1-requires
unfolding calls_in entries_of
push-b1-requires c =
    let a = c.args in
    let s = state a.b a.verbs.now a.points.now in
    room-plain s (MoveTo a.o.start) (Element.Move a.o.start) refl (room_first s _ _ c.requires)

pub push_corners-b2-requires : goal.push_corners-b2-requires
unfolding calls_in entries_of
push_corners-b2-requires c =
    let p = c.args.o.start in
    let r1 = c.push-b1 in
    let p1 = leads-plain (MoveTo p) (Element.Move p) refl r1.ensures r1.auto.verbs r1.auto.points in
    room_first (state r1.result r1.new.verbs r1.new.points) _ _ (room-then _ p1 c.requires)

pub push-b3-requires : goal.push-b3-requires
unfolding calls_in entries_of
push-b3-requires c =
    let p = c.args.o.start in
    let r1 = c.push-b1 in
    let r2 = c.push_corners-b2 in
    let p1 = leads-plain (MoveTo p) (Element.Move p) refl r1.ensures r1.auto.verbs r1.auto.points in
    let p2 = leads r2.ensures r2.auto.verbs r2.auto.points in
    let t2 = state r2.result r2.new.verbs r2.new.points in
    room-plain t2 (LineTo p) (Element.Line p) refl (room_first t2 _ _ (room-then _ p2 (room-then _ p1 c.requires)))

pub push-requires : goal.push-requires
unfolding calls_in entries_of
push-requires c =
    let p = c.args.o.start in
    let r1 = c.push-b1 in
    let r2 = c.push_corners-b2 in
    let r3 = c.push-b3 in
    let p1 = leads-plain (MoveTo p) (Element.Move p) refl r1.ensures r1.auto.verbs r1.auto.points in
    let p2 = leads r2.ensures r2.auto.verbs r2.auto.points in
    let p3 = leads-plain (LineTo p) (Element.Line p) refl r3.ensures r3.auto.verbs r3.auto.points in
    let g = room-plain (state r3.result r3.new.verbs r3.new.points) Close Element.Close refl (room-then _ p3 (room-then _ p2 (room-then _ p1 c.requires))) in
    (g.0, omega (arith, g.1))

pub shape_of-verbs : goal.shape_of-verbs
shape_of-verbs c = c.push.auto.verbs ∙ c.push-b3.auto.verbs ∙ c.push_corners-b2.auto.verbs ∙ c.push-b1.auto.verbs

pub shape_of-points : goal.shape_of-points
shape_of-points c = c.push.auto.points ∙ c.push-b3.auto.points ∙ c.push_corners-b2.auto.points ∙ c.push-b1.auto.points

pub returns : goal.returns
unfolding calls_in entries_of
returns c =
    let p = c.args.o.start in
    let r1 = c.push-b1 in
    let r2 = c.push_corners-b2 in
    let r3 = c.push-b3 in
    let r4 = c.push in
    let p1 = leads-plain (MoveTo p) (Element.Move p) refl r1.ensures r1.auto.verbs r1.auto.points in
    let p2 = leads r2.ensures r2.auto.verbs r2.auto.points in
    let p3 = leads-plain (LineTo p) (Element.Line p) refl r3.ensures r3.auto.verbs r3.auto.points in
    let p4 = leads-plain Close Element.Close refl r4.ensures r4.auto.verbs r4.auto.points in
    (leads-then p1 (leads-then p2 (leads-then p3 p4))).is
