use Rattle.stream.specs.Stream.{state}
use Rattle.building.proofs.Performing.{SoFar}
use Rattle.building.proofs.perform.Given as goal

abbrev pub invariant-loop-i : goal.invariant-loop-i
invariant-loop-i l = SoFar (state l.fn.b l.fn.verbs l.fn.points) (state l.current l.verbs l.points) l.calls l.i l.replies
