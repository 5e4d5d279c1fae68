-- `touch::try_shape` meets its contract.
use Rattle.std.proofs.Common.{◌≡◌, length, take}
use Rattle.containment.specs.Contains.{contains_of}
use Rattle.touch.specs.Search.{points_in, places_after_shape}
use Rattle.touch.proofs.try_shape.Given as goal

abbrev pub invariant-loop-i : goal.invariant-loop-i
invariant-loop-i l = (length l.results ≡ length l.initial.results) × (l.results ≡ places_after_shape (contains_of l.shape) l.index (take l.i (points_in l.points)) l.initial.results)
