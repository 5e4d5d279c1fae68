-- `report_lines::put_records` meets its contract.
use Rattle.std.proofs.Common.{◌≡◌, ◌+◌, ◌*◌, ◌≤◌, ◌++◌, length, take, drop}
use Rattle.io.specs.Counts.{IsPrefixLen}
use Rattle.panel_file.specs.File.{records, records_left}
use Rattle.report_lines.specs.Text.{text_of}
use Rattle.report_lines.specs.Records.{none_before, lines_by}
use Rattle.report_lines.proofs.put_records.Given as goal

-- the lines of the records that are left are still to come; past the text out is as it was
abbrev pub invariant-loop-record : goal.invariant-loop-record
invariant-loop-record g l =
    let left = records_left l.record-iterator in
    let line = g.L.Lines.line l.lines in
    (l.counts.buttons + l.counts.touches + length left ≤ 5461) × (l.n + 72 * length left ≤ 393192)
    × (text_of (lines_by line none_before (records l.file)) ≡ take l.n l.out ++ text_of (lines_by line l.counts left))
    × (drop l.n l.out ≡ drop l.n l.initial.out)
    × IsPrefixLen l.n l.out
