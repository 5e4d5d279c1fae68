use lib.Ieee.{nan}
use Rattle.lanes.proofs.Places.{four_lanes}
use mathlib.Core.Path.{refl}
use Rattle.geometry.specs.Point.{add_of, scale_of, sub_of, shrink_of, length_squared_of}
use Rattle.conic.specs.Conic.{conic_mid, quad_mid}
use Rattle.conic.proofs.Vectors.{meeting_lanes}
use Rattle.conic.proofs.is_near.Goals as goal

pub returns : goal.returns
unfolding conic_mid quad_mid add_of scale_of sub_of shrink_of length_squared_of
returns c h e = c.near_by_squares.ensures h (rw (e, meeting_lanes c.args.left c.args.right c.fits-left.0 c.requires, four_lanes nan c.args.right c.fits-right.0, four_lanes nan c.args.ctrls c.fits-ctrls.0) refl)
