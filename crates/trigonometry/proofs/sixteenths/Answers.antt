use Rattle.std.proofs.Common.{rules}
use Rattle.std.proofs.lemmas.Simd.{map-map, zip2-map}
use lib.Ieee.{Float, binary64, mul, div}
use Rattle.series.specs.Coefficients.{H}
use Rattle.trigonometry.specs.Constants.{sixteen}
use Rattle.trigonometry.specs.Sine.{sixteenth_of}
use Rattle.trigonometry.proofs.sixteenths.Goals as goal

pub returns : goal.returns
unfolding sixteenth_of H
returns g c =
    let q = c.each-q.ensures.mapped (λ (t : Float). div binary64 t sixteen) (λ a b e. search rules) in
    let z = c.each-z.ensures.mapped (λ (q : Float). mul binary64 q q) (λ a b e. search rules) in
    let s = c.pairwise-s.ensures (mul binary64) (λ a b r e. search rules) in
    rw (s, c.horner.ensures, c.horner-c.ensures, c.sine_coefficients-sines.ensures, c.cosine_coefficients-cosines.ensures, z, q) (simp (map-map, zip2-map))
