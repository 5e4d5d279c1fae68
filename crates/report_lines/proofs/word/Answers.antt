-- `report_lines::word` meets its contract. Assumes nothing.
use native.Mathlib.Omega.{arith}
use Rattle.report_lines.proofs.Adding.{put-added}
use Rattle.report_lines.proofs.word.Goals as goal

pub returns : goal.returns
returns c = put-added _ _ _ _ _ (omega (arith, c.requires, c.before.before.before.well_formed)) c.put.ensures
