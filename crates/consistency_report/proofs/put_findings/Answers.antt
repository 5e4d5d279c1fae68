-- `consistency_report::put_findings` meets its contract.
use Rattle.std.proofs.Common.{List, ℕ, ◌++◌, sym, ap, ◌∙◌, arith}
use Rattle.panel_file.specs.File.{records}
use Rattle.report_lines.specs.declared.Line.TheVariants.{End}
use Rattle.report_lines.specs.Line.{line_of}
use Rattle.report_lines.specs.Text.{text_of}
use Rattle.report_lines.specs.Records.{none_before}
use Rattle.report_lines.proofs.Writing.{over_all}
use Rattle.consistency_report.specs.Findings.{findings_of}
use Rattle.consistency_report.proofs.Finding.{findings_of-lines_by}
use Rattle.consistency_report.proofs.put_findings.Goals as goal

pub put_line-requires : goal.put_line-requires
put_line-requires c = omega (arith, c.put_records-n.ensures.upper_bound)

pub returns : goal.returns
returns c =
    let all = records c.args.file.now in
    let put = c.put_records-n.ensures in
    let o = over_all _ _ _ _ _ _ put.over.rest c.put_line.ensures.over (text_of (findings_of 0 all))
    (findings_of-lines_by none_before all ∙ ap (λ (t : List ℕ). t ++ line_of End) (sym put.over.front))
    c.put_line.ensures.prefix_len in
    record { prefix_len = c.put_line.ensures.prefix_len; over = o }
