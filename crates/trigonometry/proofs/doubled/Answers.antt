use Rattle.std.proofs.Common.{rules}
use lib.Ieee.{Float, binary64, mul, sub}
use Rattle.lanes.proofs.Places.{map-of_zip2}
use Rattle.ieee.specs.Binary64.{two}
use Rattle.trigonometry.specs.Sine.{doubled_of}
use Rattle.trigonometry.proofs.doubled.Goals as goal

pub returns : goal.returns
unfolding doubled_of
returns g c =
    let sines = c.pairwise-s.ensures (λ (s k : Float). mul binary64 (mul binary64 two s) k) (λ a b r e. search rules) in
    let cosines = c.pairwise-c.ensures (λ (s k : Float). sub binary64 (mul binary64 k k) (mul binary64 s s)) (λ a b r e. search rules) in
    rw (sines, cosines) (simp map-of_zip2)
