-- `panel_file::check` meets its contract. Assumes nothing.
use mathlib.Core.Path.{◌≡◌}
use Prim.Native.Nat.{◌+◌, ◌-◌, ◌≤◌}
use lib.ListN.{length}
use Rattle.panel_file.specs.Panel.{limit, on_done, records_from, records_of, counts_of}
use Rattle.panel_file.proofs.Counting.{plus}
use Rattle.panel_file.proofs.check.Given as goal

-- the counts so far and those of the records from `at` on make up those of the whole file
abbrev pub invariant-loop-kind : goal.invariant-loop-kind
invariant-loop-kind l =
    (l.at ≤ limit) × (l.counts.buttons + l.counts.touches ≤ l.at) × (on_done counts_of (records_of l.file) ≡ on_done (plus l.counts) (records_from l.file l.at))

abbrev pub decreases-loop-kind : goal.decreases-loop-kind
decreases-loop-kind l = length l.file - l.at
