use Rattle.containment.proofs.Tested.{distances_of, distances}
use Rattle.containment.proofs.squared_distances.Goals as goal

pub returns : goal.returns
unfolding distances_of
returns c = distances c.args.p c.args.q c.fits-p.0 c.fits-q.0
