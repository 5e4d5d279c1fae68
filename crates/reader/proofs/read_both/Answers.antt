use mathlib.Core.Path.{◌≡◌, sym, ap, ◌∙◌}
use mathlib.Core.List.{List}
use Prim.Native.Nat.{ℕ, ◌*◌, ◌-◌, ◌<◌, ◌≤◌}
use native.Mathlib.Omega.{arith}
use lib.ListN.{length, take, drop}
use lib.Ieee.{Float}
use Rattle.stream.specs.Stream.{State, state}
use Rattle.reader.specs.declared.Cursor.{Cursor}
use Rattle.reader.specs.declared.Segment.{Segment}
use Rattle.reader.specs.Reading.{ok, item_of, read_at, part_of, part_at, floats_at}
use Rattle.reader.proofs.Parts.{take-drop, part_is, between, within, next_is}
use Rattle.reader.proofs.Refusals.{no_item}
use Rattle.reader.proofs.read_both.Goals as goal
use Rattle.reader.proofs.read_both.Goals.{Then-p-q}

-- the part, which is also the segment's floats
record Both (s : State) (c : Cursor) (l : List Float) : Type 0 where
  part : l ≡ part_at s c
  floats : l ≡ floats_at s c

both : (s : State) (c : Cursor) {l : List Float} → l ≡ part_at s c → Both s c l
both s c e = record { part = e; floats = e ∙ part_is s c }

-- what lies between the cursor and the next is the part
next_at_lem : (s : State) (c : Cursor) (k : Segment) (d : Cursor) → read_at s c ≡ ok (item_of k d) → take (2 * d.point - 2 * c.point) (drop (2 * c.point) s.floats) ≡ part_at s c
next_at_lem s c k d e =
    let p = c.point in
    ap (λ (d : Cursor). take (2 * d.point - 2 * p) (drop (2 * p) s.floats)) (sym (next_is k d)) ∙ take-drop (2 * p) _ s.floats ∙ between s c _ e

next_fits : (s : State) (c : Cursor) (k : Segment) (d : Cursor) → read_at s c ≡ ok (item_of k d) → c.point < d.point → 2 * d.point ≤ length s.floats
next_fits s c k d e h =
    let n = next_is k d in
    rw n at (within s _ _ e (rw n h))

fits : (c : Then-p-q) → 2 * c.in-Ok.next.point ≤ length c.args.points.now
fits c = next_fits (state c.args.b c.args.verbs.now c.args.points.now) c.args.c c.in-Ok.field-0-0 c.in-Ok.next (sym c.in-Ok.ensures) c.if-p-q.true

pub returns-in_default : goal.returns-in_default
unfolding part_at
returns-in_default c =
    let a = c.args in
    let r = no_item c.read-reading.result c.in_default.not-Ok in
    let e = both (state a.b a.verbs.now a.points.now) a.c (ap (part_of a.points.now a.c) (sym r.is ∙ c.read-reading.ensures)) in
    record { reading = c.read-reading.ensures; part = e.part; floats = e.floats }

pub overflow_mul-result : goal.overflow_mul-result
overflow_mul-result c = omega (arith, fits c, c.well_formed)

pub overflow_mul-result-then-p-q : goal.overflow_mul-result-then-p-q
overflow_mul-result-then-p-q c = omega (arith, fits c, c.well_formed)

pub offset_bounds-points-p : goal.offset_bounds-points-p
offset_bounds-points-p c = omega (arith, fits c, c.well_formed)

pub slice_bounds-result-end-then-p-q : goal.slice_bounds-result-end-then-p-q
slice_bounds-result-end-then-p-q c = omega (arith, fits c)

pub returns-then-p-q : goal.returns-then-p-q
returns-then-p-q c =
    let a = c.args in
    let e = both _ _ (next_at_lem (state a.b a.verbs.now a.points.now) a.c c.in-Ok.field-0-0 c.in-Ok.next (sym c.in-Ok.ensures)) in
    record { reading = c.read-reading.ensures; part = e.part; floats = e.floats }

pub returns : goal.returns
returns c =
    let a = c.args in
    let s = state a.b a.verbs.now a.points.now in
    let p = a.c.point in
    let z : 2 * c.in-Ok.next.point - 2 * p ≡ 0 = omega (arith, c.if-p-q.false) in
    let e = both _ _ (sym (ap (λ (n : ℕ). take n (drop (2 * p) s.floats)) z) ∙ next_at_lem s a.c c.in-Ok.field-0-0 c.in-Ok.next (sym c.in-Ok.ensures)) in
    record { reading = c.read-reading.ensures; part = e.part; floats = e.floats }
