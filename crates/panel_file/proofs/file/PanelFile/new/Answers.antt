-- `PanelFile::new` meets its contract.
use Rattle.std.proofs.Common.{sym, rules}
use Rattle.panel_file.specs.File.{records, new_answer}
use Rattle.panel_file.specs.Panel.{records_of}
use Rattle.panel_file.proofs.Walking.{is-done, checked_good, checked_broken}
use Rattle.panel_file.proofs.file.PanelFile.new.Goals as goal

pub returns-in_err-counts : goal.returns-in_err-counts
unfolding new_answer
returns-in_err-counts c = rw (← (checked_broken (records_of c.args.bytes.now) c.in_err-counts.field-0.0 c.in_err-counts.ensures)) (search rules)

pub invariant_of-result : goal.invariant_of-result
invariant_of-result c = let w = checked_good (records_of c.args.bytes.now) c.in_ok-counts.counts c.in_ok-counts.ensures in record { good = w.0; counted = w.1 }

pub returns : goal.returns
unfolding new_answer records
returns c = sym (is-done _ (checked_good (records_of c.args.bytes.now) c.in_ok-counts.counts c.in_ok-counts.ensures).0)
