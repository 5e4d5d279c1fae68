-- `PanelFile::records` meets its contract.
use Rattle.std.proofs.Common.{refl}
use Rattle.panel_file.specs.Panel.{records_of}
use Rattle.panel_file.specs.File.{records, records_left}
use Rattle.panel_file.proofs.Walking.{good_few}
use Rattle.panel_file.proofs.file.PanelFile.records.Goals as goal

pub invariant_of-result : goal.invariant_of-result
unfolding records_of
invariant_of-result c = record { good = c.args.self.now.good }

pub returns-clause-value : goal.returns-clause-value
unfolding records records_left records_of
returns-clause-value c = refl

pub returns-clause-most : goal.returns-clause-most
unfolding records
returns-clause-most c = (good_few c.args.self.now.bytes.now c.args.self.now.good).0
