-- A good file holds few records.
use Rattle.std.proofs.Common.{length, ◌≤◌}
use Rattle.panel_file.specs.declared.file.PanelFile.{PanelFile}
use Rattle.panel_file.specs.File.{records}
use Rattle.panel_file.proofs.Walking.{good_few}

pub records_few : (f : PanelFile) → length (records f) ≤ 5461
unfolding records
records_few f = (good_few f.bytes.now f.good).0
