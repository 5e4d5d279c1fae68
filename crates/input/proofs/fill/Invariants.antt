-- `input::fill` meets its contract: each turn holds more bytes, and what is held is what was read.
use Rattle.std.proofs.Common.{◌≡◌, ◌-◌, ◌≤◌, length, take}
use Rattle.std.specs.Io.KnownBytes.{Consumes}
use Rattle.input.proofs.fill.Given as goal

abbrev pub invariant-loop-held : goal.invariant-loop-held
invariant-loop-held g l =
    (length l.file ≡ length l.initial.file) × (l.held ≤ length l.file)
    × Consumes (g.R.Read.remaining l.initial.input) (g.R.Read.remaining l.input) (take l.held l.file)

abbrev pub decreases-loop-held : goal.decreases-loop-held
decreases-loop-held g l = length l.file - l.held
