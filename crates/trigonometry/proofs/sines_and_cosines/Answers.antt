use Rattle.std.proofs.Common.{rules}
use Rattle.std.proofs.lemmas.Simd.{map-map, zip2-map}
use lib.Ieee.{Float}
use Rattle.trigonometry.specs.declared.SinCos.{SinCos}
use Rattle.trigonometry.specs.Sine.{sin_cos_of}
use Rattle.trigonometry.proofs.sines_and_cosines.Goals as goal

abbrev both : Float → Float → SinCos
both s k = record { sin = s; cos = k }

pub returns : goal.returns
unfolding sin_cos_of
returns g c = rw (c.pairwise.ensures both (λ a b r e. search rules), c.narrow-sines.ensures, c.narrow-cosines.ensures, c.pairs_at-p.ensures) (simp (map-map, zip2-map))
