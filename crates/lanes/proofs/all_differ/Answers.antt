use native.Mathlib.Omega.{arith}
use lib.Ieee.{lt, ne}
use Rattle.lanes.proofs.Masks.{each_32}
use Rattle.lanes.proofs.all_differ.Goals as goal

pub returns : goal.returns
returns g c = each_32 lt ne c.args.number c.args.number c.args.x g.row.N (omega arith)
