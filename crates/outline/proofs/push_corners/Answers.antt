use mathlib.Core.Path.{sym, ap, ◌∙◌}
use mathlib.Core.List.{append-nil, flatten}
use Rattle.stream.specs.Stream.{state}
use Rattle.outline_corners.specs.Calls.{calls_of}
use Rattle.outline_need.specs.Entries.{push_calls}
use Rattle.outline_need.proofs.Along.{room_first}
use Rattle.outline.proofs.Pushed.{leads, leads-then, room-then}
use Rattle.outline.proofs.push_corners.Goals as goal

pub push_corner-b1-requires : goal.push_corner-b1-requires
unfolding flatten
push_corner-b1-requires c = let a = c.args in room_first (state a.b a.verbs.now a.points.now) _ _ c.requires

pub push_corner-b2-requires : goal.push_corner-b2-requires
unfolding flatten
push_corner-b2-requires c =
    let r1 = c.push_corner-b1 in
    let p1 = leads r1.ensures r1.auto.verbs r1.auto.points in
    room_first (state r1.result r1.new.verbs r1.new.points) _ _ (room-then _ p1 c.requires)

pub push_corner-b3-requires : goal.push_corner-b3-requires
unfolding flatten
push_corner-b3-requires c =
    let r1 = c.push_corner-b1 in
    let r2 = c.push_corner-b2 in
    let p1 = leads r1.ensures r1.auto.verbs r1.auto.points in
    let p2 = leads r2.ensures r2.auto.verbs r2.auto.points in
    room_first (state r2.result r2.new.verbs r2.new.points) _ _ (room-then _ p2 (room-then _ p1 c.requires))

pub push_corner-requires : goal.push_corner-requires
unfolding flatten
push_corner-requires c =
    let r1 = c.push_corner-b1 in
    let r2 = c.push_corner-b2 in
    let r3 = c.push_corner-b3 in
    let p1 = leads r1.ensures r1.auto.verbs r1.auto.points in
    let p2 = leads r2.ensures r2.auto.verbs r2.auto.points in
    let p3 = leads r3.ensures r3.auto.verbs r3.auto.points in
    room_first (state r3.result r3.new.verbs r3.new.points) _ _ (room-then _ p3 (room-then _ p2 (room-then _ p1 c.requires)))

pub shape_of-verbs : goal.shape_of-verbs
shape_of-verbs c = c.push_corner.auto.verbs ∙ c.push_corner-b3.auto.verbs ∙ c.push_corner-b2.auto.verbs ∙ c.push_corner-b1.auto.verbs

pub shape_of-points : goal.shape_of-points
shape_of-points c = c.push_corner.auto.points ∙ c.push_corner-b3.auto.points ∙ c.push_corner-b2.auto.points ∙ c.push_corner-b1.auto.points

pub returns : goal.returns
unfolding flatten
returns c =
    let r1 = c.push_corner-b1 in
    let r2 = c.push_corner-b2 in
    let r3 = c.push_corner-b3 in
    let r4 = c.push_corner in
    let p1 = leads r1.ensures r1.auto.verbs r1.auto.points in
    let p2 = leads r2.ensures r2.auto.verbs r2.auto.points in
    let p3 = leads r3.ensures r3.auto.verbs r3.auto.points in
    let t3 = state r3.result r3.new.verbs r3.new.points in
    let p4 = leads (r4.ensures ∙ ap (push_calls t3) (sym (append-nil (calls_of c.args.corners.fourth)))) r4.auto.verbs r4.auto.points in
    (leads-then p1 (leads-then p2 (leads-then p3 p4))).is
