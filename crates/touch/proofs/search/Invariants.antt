-- `touch::search` meets its contract.
use Rattle.std.proofs.Common.{◌≡◌, drop}
use Rattle.panel_file.specs.File.{records}
use Rattle.touch.specs.Touch.{shapes_of}
use Rattle.touch.specs.Search.{points_in, places_after_shapes}
use Rattle.touch.proofs.search.Given as goal

-- the shapes from index i on, which lie on top, have been tried
abbrev pub invariant-loop-i : goal.invariant-loop-i
invariant-loop-i l = l.results ≡ places_after_shapes (points_in l.points) l.i (drop l.i (shapes_of (records l.file))) l.initial.results
