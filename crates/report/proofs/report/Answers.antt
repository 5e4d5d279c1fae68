-- `report::report` meets its contract.
use Rattle.std.proofs.Common.{◌≡◌, List, ap, sym, ◌∙◌}
use Rattle.panel_file.specs.declared.Record.{Record}
use Rattle.panel_file.specs.Panel.{Answer}
use Rattle.panel_file.specs.File.{records, new_answer}
use Rattle.report_lines.specs.declared.Line.TheVariants.{Broken}
use Rattle.report_lines.specs.Line.{line_of}
use Rattle.report_lines.specs.Text.{text_of}
use Rattle.report.specs.Report.{lines_of, lines_of_answer, report_of}
use Rattle.report.proofs.Placing.{all_placed}
use Rattle.report_lines.proofs.Writing.{one_line, all_over}
use Rattle.report.proofs.report.Goals as goal

pub put_lines-requires : goal.put_lines-requires
put_lines-requires c = all_placed _ _ _ _ c.places.ensures.results_after c.places.ensures.count

pub returns-in-Ok : goal.returns-in-Ok
unfolding report_of lines_of_answer new_answer
returns-in-Ok c =
    let rs = records c.in-Ok.file in
    let e : text_of (report_of c.args.file.now) ≡ text_of (lines_of rs 0 rs) = ap (λ (x : Answer (List Record)). text_of (lines_of_answer x)) (sym c.in-Ok.ensures) in
    let w = all_over _ _ _ _ c.put_lines.ensures.over in
    rw e (record { prefix_len = c.put_lines.ensures.prefix_len; value = w.0; out_after = w.1 })

pub returns-in-Err : goal.returns-in-Err
unfolding report_of lines_of_answer new_answer
returns-in-Err c =
    let o = c.in-Err.broken.offset in
    let e : text_of (report_of c.args.file.now) ≡ line_of (Broken 7 o) =
    ap (λ (x : Answer (List Record)). text_of (lines_of_answer x)) (sym c.in-Err.ensures) ∙ one_line (Broken 7 o) in
    let put = rw c.from.ensures at c.put_line.ensures.over in
    let w = all_over _ _ _ _ put in
    rw e (record { prefix_len = c.put_line.ensures.prefix_len; value = w.0; out_after = w.1 })
