-- `PanelFile::button_offsets` meets its contract.
use Rattle.std.proofs.Common.{◌≡◌, true, ◌≤◌, Some, length, map, ◌-◌, ◌*◌}
use Rattle.panel_file.specs.Panel.{limit, records_from, is_done, buttons_of}
use Rattle.panel_file.specs.File.{records}
use Rattle.panel_file.proofs.Buttons.{standing}
use Rattle.panel_file.proofs.file.PanelFile.button_offsets.Given as goal

-- what stands at the offsets so far, and the buttons from `at` on, are those of the whole file
abbrev pub invariant-loop-record : goal.invariant-loop-record
invariant-loop-record l =
    (l.at ≤ limit) × (52 * l.n ≤ l.at) × (length l.offsets ≡ 1260) × (is_done (records_from l.self.bytes.now l.at) ≡ true)
    × (standing l.self l.n l.offsets l.at ≡ map Some (buttons_of (records l.self)))

abbrev pub decreases-loop-record : goal.decreases-loop-record
decreases-loop-record l = length l.self.bytes.now - l.at
