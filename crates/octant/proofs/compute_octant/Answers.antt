use Rattle.octant.proofs.Solving.{round_octant-is}
use Rattle.octant.proofs.compute_octant.Goals as goal

pub returns : goal.returns
returns c = rw c.round_octants.ensures (round_octant-is _ c.if-radius.false)
