-- `report_lines::put_records` meets its contract.
use Rattle.std.proofs.Common.{List, ℕ, ◌++◌, length, take, append_assoc, sym, ap, ◌∙◌, arith}
use Rattle.panel_file.specs.declared.Record.{Record}
use Rattle.panel_file.specs.Panel.{kind_of_record, counts_with}
use Rattle.panel_file.specs.File.{records_left}
use Rattle.panel_file.proofs.Counting.{one_more}
use Rattle.report_lines.specs.Text.{text_of}
use Rattle.report_lines.specs.Records.{lines_by}
use Rattle.report_lines.proofs.Writing.{over_rest}
use Rattle.report_lines.proofs.Listing.{next_lines, over_counts, over_whole, none_left}
use Rattle.report_lines.proofs.put_records.Goals as goal

pub returns-clause-over : goal.returns-clause-over
returns-clause-over g c =
    let loop = c.loop-record in
    let line = g.L.Lines.line c.args.lines.now in
    let whole = loop.invariant.2 ∙ none_left line (take loop.n loop.out) loop.counts _ c.in-None.ensures.steps.0 in
    over_whole _ loop.out loop.n _ loop.invariant.3 whole loop.invariant.4

pub loop-record-preserved : goal.loop-record-preserved
loop-record-preserved g c =
    let loop = c.loop-record in
    let line = g.L.Lines.line c.args.lines.now in
    let r = c.in-Some.«record» in
    let step = c.in-Some.ensures.steps in
    let rest = records_left c.next.new.self in
    let more = one_more loop.counts (kind_of_record r) in
    let put = rw c.line.ensures at c.put_any-n.ensures.over in
    rw (c.with-counts.ensures, c.kind.ensures) (
      omega (arith, ap length step, more),
      omega (arith, ap length step, c.put_any-n.ensures.upper_bound),
      loop.invariant.2
          ∙ ap (λ (rs : List Record). take loop.n loop.out ++ text_of (lines_by line loop.counts rs)) step
          ∙ ap (λ (t : List ℕ). take loop.n loop.out ++ t) (next_lines line loop.counts r rest)
          ∙ sym (append_assoc (take loop.n loop.out) _ _)
          ∙ ap (λ (t : List ℕ). t ++ text_of (lines_by line (counts_with loop.counts (kind_of_record r)) rest)) (sym put.front),
      over_rest c.args.out.now loop.out loop.n _ _ _ loop.invariant.3 put,
      over_counts loop.out loop.n _ _ _ loop.invariant.4 put,
    )
