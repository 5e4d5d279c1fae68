use Rattle.stream.proofs.Put.{put_two}
use lib.ListN.{length-set}
use native.Mathlib.Omega.{arith}
use Rattle.stream.proofs.put_point.Goals as goal

pub bounds-floats-at-2 : goal.bounds-floats-at-2
bounds-floats-at-2 c = simp length-set (omega arith)

pub returns : goal.returns
returns c = put_two c.args.floats.now c.args.at c.args.p.x c.args.p.y c.requires
