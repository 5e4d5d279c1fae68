use lib.Ieee.{nan}
use Rattle.lanes.proofs.Places.{four_lanes}
use Rattle.lanes.proofs.Masks.{both_first}
use mathlib.Core.Path.{◌∙◌}
use Rattle.conic.specs.Conic.{near_of}
use Rattle.conic.proofs.Vectors.{first_lane, second_lane}
use Rattle.conic.proofs.near_by_roots.Goals as goal

pub returns : goal.returns
unfolding near_of
returns c =
    record {
      left = rw (c.roots-lengths.ensures, four_lanes nan c.args.squares c.fits-squares.0) (first_lane _ _ _ _ ∙ both_first _ _);
      right = rw (c.roots-lengths.ensures, four_lanes nan c.args.squares c.fits-squares.0) (second_lane _ _ _ _ ∙ both_first _ _);
    }
