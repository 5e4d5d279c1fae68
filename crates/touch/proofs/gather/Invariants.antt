-- `touch::gather` meets its contract.
use Rattle.std.proofs.Common.{◌≡◌, ◌+◌, ◌*◌, ◌≤◌, ◌++◌, length, take}
use Rattle.panel_file.specs.Panel.{touches_of}
use Rattle.panel_file.specs.File.{records, records_left}
use Rattle.touch.specs.Search.{floats_of}
use Rattle.touch.proofs.gather.Given as goal

-- the floats of the touches that are left are still to come
abbrev pub invariant-loop-record : goal.invariant-loop-record
invariant-loop-record l =
    (l.n + length (records_left l.record-iterator) ≤ 5461) × (length l.points ≡ length l.initial.points)
    × (floats_of (touches_of (records l.file)) ≡ take (2 * l.n) l.points ++ floats_of (touches_of (records_left l.record-iterator)))
