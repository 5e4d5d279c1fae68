use mathlib.Core.Path.{refl}
use Rattle.stream.specs.declared.Element.TheVariants.{Cubic}
use Rattle.stream.specs.Stream.{state}
use Rattle.calls.specs.Calls.{entries_of}
use Rattle.outline_corners.specs.Calls.{cubic_call}
use Rattle.outline_need.proofs.Along.{room_first}
use Rattle.outline.proofs.Pushed.{room-plain, leads, leads-plain, leads-then, room-then}
use Rattle.outline.proofs.push_forwards.Goals as goal

pub push_conic-b1-requires : goal.push_conic-b1-requires
push_conic-b1-requires c = let a = c.args in room_first (state a.b a.verbs.now a.points.now) _ _ c.requires

pub push_conic-b2-requires : goal.push_conic-b2-requires
push_conic-b2-requires c =
    let r1 = c.push_conic-b1 in
    room_first (state r1.result r1.new.verbs r1.new.points) _ _ (room-then _ (leads r1.ensures r1.auto.verbs r1.auto.points) c.requires)

pub push-requires : goal.push-requires
unfolding entries_of
push-requires c =
    let o = c.args.o.circle in
    let r1 = c.push_conic-b1 in
    let r2 = c.push_conic-b2 in
    let p1 = leads r1.ensures r1.auto.verbs r1.auto.points in
    let p2 = leads r2.ensures r2.auto.verbs r2.auto.points in
    room-plain (state r2.result r2.new.verbs r2.new.points) (cubic_call o) (Cubic o.c0 o.c1 o.to) refl (room-then _ p2 (room-then _ p1 c.requires))

pub returns : goal.returns
unfolding entries_of
returns c =
    let o = c.args.o.circle in
    let r1 = c.push_conic-b1 in
    let r2 = c.push_conic-b2 in
    let r3 = c.push in
    let p1 = leads r1.ensures r1.auto.verbs r1.auto.points in
    let p2 = leads r2.ensures r2.auto.verbs r2.auto.points in
    (leads-then p1 (leads-then p2 (leads-plain (cubic_call o) (Cubic o.c0 o.c1 o.to) refl r3.ensures r3.auto.verbs r3.auto.points))).is
