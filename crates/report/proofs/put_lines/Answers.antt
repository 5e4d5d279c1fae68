-- `report::put_lines` meets its contract.
use Rattle.std.proofs.Common.{List, ℕ, ◌++◌, refl, sym, ap, ◌∙◌, arith}
use Rattle.panel_file.specs.File.{records}
use Rattle.panel_file.proofs.Opened.{records_few}
use Rattle.report_lines.specs.declared.Line.TheVariants.{End}
use Rattle.report_lines.specs.Line.{line_of}
use Rattle.report_lines.specs.Text.{text_of}
use Rattle.report_lines.specs.Records.{none_before}
use Rattle.report.specs.Report.{lines_of}
use Rattle.report.proofs.Placing.{report_of-lines_by}
use Rattle.report_lines.proofs.Writing.{over_all}
use Rattle.report.proofs.put_lines.Goals as goal

pub put_line-requires : goal.put_line-requires
put_line-requires c = omega (arith, c.put_records-n.ensures.upper_bound)

pub returns : goal.returns
returns c =
    let all = records c.args.file.now in
    let put = c.put_records-n.ensures in
    let o = over_all _ _ _ _ _ _ put.over.rest c.put_line.ensures.over (text_of (lines_of all 0 all))
    (report_of-lines_by all c.args.places.now.place_codes none_before refl c.requires (records_few c.args.file.now)
    ∙ ap (λ (t : List ℕ). t ++ line_of End) (sym put.over.front))
    c.put_line.ensures.prefix_len in
    record { prefix_len = c.put_line.ensures.prefix_len; over = o }
