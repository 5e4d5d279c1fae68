-- `Records::next` meets its contract.
use Rattle.std.proofs.Common.{◌≡◌, ◌∙◌, ap, length, Ok, Some, rules}
use Rattle.panel_file.specs.File.{records_left}
use Rattle.panel_file.proofs.Walking.{step-done, step_records, stop_records}
use Rattle.panel_file.proofs.file.RecordsIterator.next.Goals as goal
use Rattle.panel_file.proofs.file.RecordsIterator.next.Goals.{In-Ok-Some}

read : (c : In-Ok-Some) → c.record_at.result ≡ Ok (Some (c.in-Ok-Some.record, c.in-Ok-Some.next))
read c = c.in-Ok-Some.is ∙ ap Ok c.in-Ok-Some.field-0-is

pub returns-in_default-clause-steps : goal.returns-in_default-clause-steps
unfolding records_left
returns-in_default-clause-steps c =
    let s = c.args.self.now in
    let none = stop_records s.bytes.now s.at c.record_at.result c.record_at.ensures (λ r next q. cc) s.good in
    (none, none)

pub returns-in_default-2-clause-steps : goal.returns-in_default-2-clause-steps
unfolding records_left
returns-in_default-2-clause-steps c =
    let s = c.args.self.now in
    let none = stop_records s.bytes.now s.at c.record_at.result c.record_at.ensures (λ r next q. cc) s.good in
    (none, none)

pub invariant_of-self : goal.invariant_of-self
invariant_of-self c =
    let s = c.args.self.now in
    record { good = step-done s.bytes.now s.at c.record_at.result c.record_at.ensures c.in-Ok-Some.record c.in-Ok-Some.next (read c) s.good }

pub returns-clause-steps : goal.returns-clause-steps
unfolding records_left
returns-clause-steps c =
    let s = c.args.self.now in
    step_records s.bytes.now s.at c.record_at.result c.record_at.ensures c.in-Ok-Some.record c.in-Ok-Some.next (read (goal.at.returns-clause-steps c).In-Ok-Some) s.good

pub returns-clause-goes : goal.returns-clause-goes
unfolding records_left
returns-clause-goes c =
    let s = c.args.self.now in
    let e = step_records s.bytes.now s.at c.record_at.result c.record_at.ensures c.in-Ok-Some.record c.in-Ok-Some.next (read (goal.at.returns-clause-goes c).In-Ok-Some) s.good in
    let shorter = ap length e in
    search rules
