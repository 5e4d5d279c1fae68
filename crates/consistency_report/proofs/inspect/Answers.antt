-- `consistency_report::inspect` meets its contract.
use Rattle.std.proofs.Common.{◌≡◌, List, ap, sym, ◌∙◌}
use Rattle.panel_file.specs.declared.Record.{Record}
use Rattle.panel_file.specs.Panel.{Answer}
use Rattle.panel_file.specs.File.{records, new_answer}
use Rattle.report_lines.specs.declared.Line.TheVariants.{Broken}
use Rattle.report_lines.specs.Line.{line_of}
use Rattle.report_lines.specs.Text.{text_of}
use Rattle.report_lines.proofs.Writing.{one_line, all_over}
use Rattle.consistency_report.specs.Findings.{findings_of, lines_of_answer, inspection_of}
use Rattle.consistency_report.proofs.inspect.Goals as goal

pub returns-in-Ok : goal.returns-in-Ok
unfolding inspection_of lines_of_answer new_answer
returns-in-Ok c =
    let e : text_of (inspection_of c.args.file.now) ≡ text_of (findings_of 0 (records c.in-Ok.file)) =
    ap (λ (x : Answer (List Record)). text_of (lines_of_answer x)) (sym c.in-Ok.ensures) in
    let w = all_over _ _ _ _ c.put_findings.ensures.over in
    rw e (record { prefix_len = c.put_findings.ensures.prefix_len; value = w.0; out_after = w.1 })

pub returns-in-Err : goal.returns-in-Err
unfolding inspection_of lines_of_answer new_answer
returns-in-Err c =
    let o = c.in-Err.broken.offset in
    let e : text_of (inspection_of c.args.file.now) ≡ line_of (Broken 7 o) =
    ap (λ (x : Answer (List Record)). text_of (lines_of_answer x)) (sym c.in-Err.ensures) ∙ one_line (Broken 7 o) in
    let put = rw c.from.ensures at c.put_line.ensures.over in
    let w = all_over _ _ _ _ put in
    rw e (record { prefix_len = c.put_line.ensures.prefix_len; value = w.0; out_after = w.1 })
