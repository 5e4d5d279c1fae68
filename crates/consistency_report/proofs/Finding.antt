-- The lines of an inspection are those that each record has, and `end`. Assumes nothing.
use mathlib.Core.Path.{◌≡◌, sym, ap, ◌∙◌}
use mathlib.Core.List.{List, [], ◌∷◌, ◌++◌, append-nil, append_assoc}
use Prim.Native.Nat.{ℕ}
use Rattle.panel_file.specs.declared.Counts.{Counts}
use Rattle.panel_file.specs.declared.Record.{Record}
use Rattle.panel_file.specs.declared.Record.TheVariants.{Button as ButtonRecord, Touch as TouchRecord}
use Rattle.panel_file.specs.Panel.{counts_with, kind_of_record}
use Rattle.report_lines.specs.declared.Line.TheVariants.{End}
use Rattle.report_lines.specs.Line.{line_of}
use Rattle.report_lines.specs.Text.{text_of}
use Rattle.report_lines.specs.Records.{lines_at, lines_by}
use Rattle.consistency_report.specs.Findings.{finding, finding_at, findings_of}

pub findings_of-lines_by : (c : Counts) (rs : List Record) → text_of (findings_of c.buttons rs) ≡ text_of (lines_by finding_at c rs) ++ line_of End
unfolding counts_with kind_of_record finding_at findings_of lines_at lines_by text_of
findings_of-lines_by c [] = append-nil (line_of End)
findings_of-lines_by c (ButtonRecord b ∷ rs) =
    let line = line_of (finding c.buttons b) in
    let next = counts_with c (kind_of_record (ButtonRecord b)) in
    ap (λ (t : List ℕ). line ++ t) (findings_of-lines_by next rs)
    ∙ sym (append_assoc line (text_of (lines_by finding_at next rs)) (line_of End))
findings_of-lines_by c (TouchRecord p ∷ rs) = findings_of-lines_by (counts_with c (kind_of_record (TouchRecord p))) rs
