use native.Mathlib.Omega.{arith}
use lib.Ieee.{lt}
use Rattle.lanes.proofs.Masks.{between_32}
use Rattle.lanes.proofs.all_between.Goals as goal

pub returns : goal.returns
returns g c = between_32 lt lt c.args.low c.args.high c.args.x g.row.N (omega arith)
