use Rattle.std.proofs.Common.{rules}
use Rattle.std.proofs.lemmas.Simd.{map-map, zip2-map}
use lib.Ieee.{binary64, div}
use Rattle.trigonometry.specs.Sine.{tan_of}
use Rattle.trigonometry.proofs.tangents.Goals as goal

pub returns : goal.returns
unfolding tan_of
returns g c = rw (c.narrow.ensures, c.pairwise.ensures (div binary64) (λ a b r e. search rules), c.pairs_at-p.ensures) (simp (map-map, zip2-map))
