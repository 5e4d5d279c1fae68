-- `PanelFile::counts` meets its contract.
use Rattle.panel_file.specs.Panel.{counts_of}
use Rattle.panel_file.specs.File.{records}
use Rattle.panel_file.proofs.Walking.{good_few}
use Rattle.panel_file.proofs.file.PanelFile.counts.Goals as goal

pub returns-clause-value : goal.returns-clause-value
unfolding records
returns-clause-value c = c.args.self.now.counted

pub returns-clause-most : goal.returns-clause-most
unfolding counts_of
returns-clause-most c = rw c.args.self.now.counted (good_few c.args.self.now.bytes.now c.args.self.now.good).1
