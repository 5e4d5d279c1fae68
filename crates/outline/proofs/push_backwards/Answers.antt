use mathlib.Core.Path.{refl}
use Rattle.stream.specs.declared.Element.TheVariants.{Cubic}
use Rattle.stream.specs.Stream.{state}
use Rattle.calls.specs.Calls.{entries_of}
use Rattle.outline_corners.specs.Calls.{cubic_call}
use Rattle.outline_need.proofs.Along.{room_first}
use Rattle.outline.proofs.Pushed.{room-plain, leads, leads-plain, leads-then, room-then}
use Rattle.outline.proofs.push_backwards.Goals as goal

pub push-b1-requires : goal.push-b1-requires
unfolding entries_of
push-b1-requires c =
    let a = c.args in
    let o = a.o.circle in
    let s = state a.b a.verbs.now a.points.now in
    room-plain s (cubic_call o) (Cubic o.c0 o.c1 o.to) refl (room_first s _ _ c.requires)

pub push_conic-b2-requires : goal.push_conic-b2-requires
unfolding entries_of
push_conic-b2-requires c =
    let o = c.args.o.circle in
    let r1 = c.push-b1 in
    let p1 = leads-plain (cubic_call o) (Cubic o.c0 o.c1 o.to) refl r1.ensures r1.auto.verbs r1.auto.points in
    room_first (state r1.result r1.new.verbs r1.new.points) _ _ (room-then _ p1 c.requires)

pub push_conic-requires : goal.push_conic-requires
unfolding entries_of
push_conic-requires c =
    let o = c.args.o.circle in
    let r1 = c.push-b1 in
    let r2 = c.push_conic-b2 in
    let p1 = leads-plain (cubic_call o) (Cubic o.c0 o.c1 o.to) refl r1.ensures r1.auto.verbs r1.auto.points in
    room-then _ (leads r2.ensures r2.auto.verbs r2.auto.points) (room-then _ p1 c.requires)

pub returns : goal.returns
unfolding entries_of
returns c =
    let o = c.args.o.circle in
    let r1 = c.push-b1 in
    let r2 = c.push_conic-b2 in
    let r3 = c.push_conic in
    let p1 = leads-plain (cubic_call o) (Cubic o.c0 o.c1 o.to) refl r1.ensures r1.auto.verbs r1.auto.points in
    let p2 = leads r2.ensures r2.auto.verbs r2.auto.points in
    (leads-then p1 (leads-then p2 (leads r3.ensures r3.auto.verbs r3.auto.points))).is
