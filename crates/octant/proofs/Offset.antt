-- Octants of the same half-extent and radius differ in their offset alone. Assumes nothing.
use mathlib.Core.Path.{◌≡◌, refl}
use mathlib.Core.Bool.{Bool, true, false, cond}
use lib.Ieee.{Float, le}
use Rattle.geometry.specs.declared.Point.{Point}
use Rattle.octant.specs.declared.Octant.{Octant}
use Rattle.octant.specs.Octant.{close_enough, compute_octant_of, with_offset}

-- by either case of a test
either : (b : Bool) (s r s' r' : Octant) (q : Point) → with_offset s q ≡ s' → with_offset r q ≡ r' → with_offset (cond b s r) q ≡ cond b s' r'
either true s r s' r' q e f = e
either false s r s' r' q e f = f

pub with_offset-octant : (p q : Point) (a radius : Float) → with_offset (compute_octant_of p a radius) q ≡ compute_octant_of q a radius
unfolding with_offset compute_octant_of
with_offset-octant p q a radius = either (le radius close_enough) _ _ _ _ q refl refl
