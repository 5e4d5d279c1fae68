-- `report_lines::put_line` meets its contract. Assumes nothing.
use native.Mathlib.Omega.{arith}
use Rattle.report_lines.proofs.Adding.{put_over}
use Rattle.report_lines.proofs.Writing.{line_most}
use Rattle.report_lines.proofs.put_line.Goals as goal

pub returns : goal.returns
returns c =
    let s = c.before.before.before.before.before in
    let line = c.text_of-n in
    let short = line_most s.args.line in
    let wrote = rw line.ensures.out_after at c.put.ensures in
    let o = put_over _ _ _ _ _ (omega (arith, s.requires)) wrote in
    record { upper_bound = omega (arith, o.1.past); prefix_len = o.0; over = o.1 }
