use lib.Ieee.{nan}
use Rattle.lanes.proofs.Places.{four_lanes}
use Rattle.conic.proofs.second.Goals as goal

pub returns : goal.returns
returns c = rw (four_lanes nan c.args.v c.fits-v.0)
