use Rattle.std.proofs.Common.{rules}
use lib.Ieee.{Float, binary64, mul}
use Rattle.lanes.proofs.Places.{zip2-of_maps, map-of_zip2}
use Rattle.ieee.specs.Basic.{widen_of}
use Rattle.exponential.specs.Power.{main_of}
use Rattle.exponential.proofs.main_powers.Goals as goal

pub returns : goal.returns
unfolding main_of
returns g c = rw (c.narrow.ensures, c.exponentials.ensures, c.pairwise.ensures (λ (l y : Float). mul binary64 y l) (λ a b r e. search rules), c.logarithms-l.ensures, c.each-y.ensures.mapped widen_of (λ a b e. e), zip2-of_maps, map-of_zip2, map-of_zip2)
