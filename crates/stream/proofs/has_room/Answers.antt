use Rattle.stream.proofs.Tests.{and-false, leb_shift}
use Rattle.stream.specs.Stream.{has_room}
use borrow.Author.Tests.{le-leb, lt-leb}
use native.Mathlib.Omega.{arith}
use Prim.Native.Nat.{◌+◌, ◌/◌}
use Rattle.stream.proofs.has_room.Goals as goal

pub returns-then-verbs-b : goal.returns-then-verbs-b
unfolding has_room
returns-then-verbs-b c =
    let a = c.args in
    rw (lt-leb (a.b.verbs + a.need.verbs) a.verbs (omega (arith, c.if-verbs-b.true)))

pub returns-then-pairs-b : goal.returns-then-pairs-b
unfolding has_room
returns-then-pairs-b c =
    let a = c.args in
    simp (lt-leb (a.b.points + a.need.points) (a.floats / 2) (omega (arith, c.if-pairs-b.true)), and-false)

pub returns-then-need-verbs : goal.returns-then-need-verbs
unfolding has_room
returns-then-need-verbs c =
    let a = c.args in
    rw (le-leb (a.b.verbs + a.need.verbs) a.verbs (omega (arith, c.if-need-verbs.true, c.if-verbs-b.false))) (leb_shift a.need.points a.b.points (a.floats / 2) c.if-pairs-b.false)

pub returns : goal.returns
unfolding has_room
returns c =
    let a = c.args in
    rw (lt-leb (a.b.verbs + a.need.verbs) a.verbs (omega (arith, c.if-need-verbs.false, c.if-verbs-b.false)))
