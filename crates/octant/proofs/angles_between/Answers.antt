use Rattle.std.proofs.Common.{rules}
use Rattle.std.proofs.lemmas.Simd.{zip2_of_maps}
use lib.Ieee.{Float}
use Rattle.geometry.specs.declared.Point.{Point}
use Rattle.trigonometry.specs.Arctangent.{atan2_of}
use Rattle.lanes.proofs.Places.{zip2-of_maps}
use Rattle.ieee.specs.Binary32.{◌⊖◌}
use Rattle.octant.specs.Octant.{angle_between_of}
use Rattle.octant.proofs.angles_between.Goals as goal

abbrev y : Point → Float
y p = p.y

abbrev x : Point → Float
x p = p.x

abbrev angle : Point → Float
angle p = atan2_of p.y p.x

pub returns : goal.returns
unfolding angle_between_of
returns g c =
    let from = c.args.from in
    let to = c.args.to in
    let f = zip2_of_maps atan2_of y x from (c.each.ensures.mapped _ (λ a b e. search rules)) (c.each-2.ensures.mapped _ (λ a b e. search rules)) in
    let t = zip2_of_maps atan2_of y x to (c.each-3.ensures.mapped _ (λ a b e. search rules)) (c.each-4.ensures.mapped _ (λ a b e. search rules)) in
    rw (c.pairwise.ensures (λ (f t : Float). t ⊖ f) (λ a b r e. search rules), c.angles_of_both-f.ensures, f, t) (zip2-of_maps (λ (f t : Float). t ⊖ f) angle angle from to)
