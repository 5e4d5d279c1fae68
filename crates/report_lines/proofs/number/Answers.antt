-- `report_lines::number` meets its contract. Assumes nothing.
use native.Mathlib.Omega.{arith}
use Rattle.report_lines.specs.Line.{number_then}
use Rattle.report_lines.proofs.Adding.{put-added, added-two, decimal_most}
use Rattle.report_lines.proofs.number.Goals as goal

pub returns : goal.returns
unfolding number_then
returns c =
    let a = c.args in
    let digits = decimal_most a.n in
    let first = put-added _ _ _ _ _ (omega (arith, c.requires, c.before.before.before.before.before.well_formed)) c.put_decimal-next.ensures in
    added-two _ _ _ _ _ _ _ _ first (put-added _ _ _ _ _ (omega (arith, c.requires, c.before.before.before.before.before.well_formed, first.past, c.put_decimal-next.auto)) c.put.ensures)
