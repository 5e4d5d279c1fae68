-- The parts of `octant_contains_of`. Cited by the contracts of inner functions. Definitions only.
use Rattle.std.specs.Prelude.{Bool, false, ◌||◌, Float, if◌then◌else◌}
use Rattle.std.specs.Float.Ieee.{lt, le}
use Rattle.geometry.specs.declared.Point.{Point}
use Rattle.geometry.specs.Point.{shrink_of}
use Rattle.exponential.specs.Power.{pow_of}
use Rattle.ieee.specs.Binary32.{◌⊕◌, zero, one}
use Rattle.octant.specs.declared.Octant.{Octant}

unfoldable pub in_superellipse : Point → Float → Float → Bool
in_superellipse p a n = let p_se = shrink_of p a in le (pow_of p_se.x n ⊕ pow_of p_se.y n) one

unfoldable pub asks_powers : Octant → Point → Bool
asks_powers param p = if lt p.x zero || lt p.y zero || lt p.y p.x then false else le p.x param.circle_start.x
