use mathlib.Core.Path.{◌≡◌, refl, sym, ap, subst, ◌∙◌}
use Rattle.stream.specs.declared.Element.TheVariants.{Line}
use Rattle.stream.specs.Stream.{State, state}
use Rattle.calls.specs.declared.Call.TheVariants.{LineTo}
use Rattle.calls.specs.Calls.{entries_of}
use Rattle.outline_corners.specs.declared.Corner.{Corner}
use Rattle.outline_corners.specs.Calls.{calls_of}
use Rattle.outline_need.specs.Entries.{push_calls, RoomAlong}
use Rattle.outline_need.proofs.Along.{room_first}
use Rattle.outline.proofs.Pushed.{room-plain, leads, leads-plain, leads-then, room-then}
use Rattle.outline.proofs.push_corner.Goals as goal

-- the room that is required, for the corner that the match found
there : (s : State) {c d : Corner} → c ≡ d → RoomAlong s (calls_of c) → RoomAlong s (calls_of d)
there s e h = subst (λ (x : Corner). RoomAlong s (calls_of x)) e h

pub push-b1-requires : goal.push-b1-requires
unfolding entries_of
push-b1-requires c =
    let a = c.args in
    let g = c.in-Square in
    let s = state a.b a.verbs.now a.points.now in
    room-plain s (LineTo g.p) (Line g.p) refl (room_first s _ _ (there s g.is c.requires))

pub push-requires : goal.push-requires
unfolding entries_of
push-requires c =
    let a = c.args in
    let g = c.in-Square in
    let r1 = c.push-b1 in
    let p1 = leads-plain (LineTo g.p) (Line g.p) refl r1.ensures r1.auto.verbs r1.auto.points in
    room-plain (state r1.result r1.new.verbs r1.new.points) (LineTo g.q) (Line g.q) refl (room-then _ p1 (there (state a.b a.verbs.now a.points.now) g.is c.requires))

pub push_forwards-b1-requires : goal.push_forwards-b1-requires
push_forwards-b1-requires c =
    let a = c.args in
    let s = state a.b a.verbs.now a.points.now in
    room_first s _ _ (there s c.in-Round.is c.requires)

pub push_backwards-requires : goal.push_backwards-requires
push_backwards-requires c =
    let a = c.args in
    let r1 = c.push_forwards-b1 in
    room-then _ (leads r1.ensures r1.auto.verbs r1.auto.points) (there (state a.b a.verbs.now a.points.now) c.in-Round.is c.requires)

pub returns-in-Square : goal.returns-in-Square
unfolding entries_of
returns-in-Square c =
    let a = c.args in
    let g = c.in-Square in
    let r1 = c.push-b1 in
    let r2 = c.push in
    let p1 = leads-plain (LineTo g.p) (Line g.p) refl r1.ensures r1.auto.verbs r1.auto.points in
    let p2 = leads-plain (LineTo g.q) (Line g.q) refl r2.ensures r2.auto.verbs r2.auto.points in
    (leads-then p1 p2).is ∙ ap (λ (x : Corner). push_calls (state a.b a.verbs.now a.points.now) (calls_of x)) (sym g.is)

pub returns-in-Round : goal.returns-in-Round
returns-in-Round c =
    let a = c.args in
    let r1 = c.push_forwards-b1 in
    let r2 = c.push_backwards in
    let p1 = leads r1.ensures r1.auto.verbs r1.auto.points in
    let p2 = leads r2.ensures r2.auto.verbs r2.auto.points in
    (leads-then p1 p2).is ∙ ap (λ (x : Corner). push_calls (state a.b a.verbs.now a.points.now) (calls_of x)) (sym c.in-Round.is)
