-- The stages of a solve make up the octant.
use mathlib.Core.Path.{◌≡◌, refl}
use mathlib.Core.Bool.{false}
use lib.Ieee.{Float, le}
use Rattle.geometry.specs.declared.Point.{Point}
use Rattle.octant.specs.Octant.{close_enough, compute_octant_of}
use Rattle.octant.specs.Stages.{fit_of, first_power_of, height_of, slope_of, round_octant_of, octant_by_powers}
use Rattle.octant.specs.declared.Fit.{Fit}
use Rattle.octant.specs.declared.Octant.{Octant}
use Rattle.octant.specs.declared.OctantFrame.{OctantFrame}

by_stages : (center : Point) (a radius : Float) (s : Fit) (power yj tan_phij : Float) (o : Octant) → le radius close_enough ≡ false
    → s ≡ fit_of a radius → power ≡ first_power_of s → yj ≡ height_of s power a → tan_phij ≡ slope_of s yj → o ≡ octant_by_powers center a s yj tan_phij → o ≡ compute_octant_of center a radius
unfolding compute_octant_of fit_of first_power_of height_of slope_of octant_by_powers
by_stages center a radius s power yj tan_phij o e es ep ey et eo = rw (e, eo, et, ey, ep, es)

pub round_octant-is : (u : OctantFrame) → le u.radius close_enough ≡ false → round_octant_of u ≡ compute_octant_of u.center u.a u.radius
unfolding round_octant_of
round_octant-is u e = by_stages u.center u.a u.radius _ _ _ _ _ e refl refl refl refl refl
