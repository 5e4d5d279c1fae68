-- A round corner by its octants' curves.
use mathlib.Core.Path.{◌≡◌, refl}
use mathlib.Core.Bool.{Bool, true, false}
use Rattle.geometry.specs.declared.Point.{Point}
use Rattle.quadrant.specs.declared.Quadrant.{Quadrant}
use Rattle.outline_corners.specs.Corners.{curves_of, octant_calls, round_calls, calls_by_curves}

pub round_calls-is : (param : Quadrant) (reverse : Bool) (scale : Point) → round_calls param reverse scale ≡ calls_by_curves param (curves_of param.top) (curves_of param.right) reverse scale
unfolding round_calls calls_by_curves octant_calls
round_calls-is param true scale = refl
round_calls-is param false scale = refl
