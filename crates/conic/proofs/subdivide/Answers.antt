use lib.Ieee.{nan}
use Rattle.lanes.proofs.Places.{four_lanes}
use Rattle.geometry.specs.Point.{add_of, scale_of}
use Rattle.conic.specs.Conic.{split_of}
use Rattle.conic.proofs.subdivide.Goals as goal

pub returns : goal.returns
unfolding split_of add_of scale_of
returns c = rw (four_lanes nan c.args.ends c.fits-ends.0, four_lanes nan c.args.ctrl c.fits-ctrl.0)
