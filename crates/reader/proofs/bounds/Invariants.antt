use Rattle.reader.specs.Bounds.{include_element, bounds_of}
use Rattle.reader.specs.Reading.{read_from, fold_read}
use Rattle.stream.specs.Stream.{state}
use Prim.Native.Nat.{◌-◌}
use mathlib.Core.Path.{◌≡◌}
use Rattle.reader.proofs.bounds.Given as goal

-- what the loop has still to read, folded onto what it has, is the box
abbrev pub invariant-loop-c : goal.invariant-loop-c
invariant-loop-c l = fold_read include_element l.seen (read_from (state l.b l.verbs l.points) l.c) ≡ bounds_of (state l.b l.verbs l.points)

abbrev pub decreases-loop-c : goal.decreases-loop-c
decreases-loop-c l = l.b.verbs - l.c.verb
