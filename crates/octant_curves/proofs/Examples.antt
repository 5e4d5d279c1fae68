-- The worked example of a conic weight, by computation. Assumes nothing.
use mathlib.Core.Path.{◌≡◌, refl}
use lib.Ieee.{Float, binary32, of_bits, add, sub, mul, div, neg, lt, le, eq, round, of_int, to_unsigned, root_below}
use Rattle.ieee.specs.Basic.{clamp_of}
use Rattle.ieee.specs.Sqrt.{isqrt, root_of, sqrt_of}
use Rattle.octant_curves.specs.Conics.{conic_at, capped_degree, superellipse_conic_factors_of}

-- opens the float operations and the definitions of the weights at once
unfoldable opened : Unit {0}
unfolding add sub mul div neg lt le eq round of_int of_bits to_unsigned clamp_of root_below isqrt root_of sqrt_of conic_at capped_degree superellipse_conic_factors_of
opened = tt

-- Degree 3: the first conic's weight is 0.7895, wherever the circle starts.
pub weight_at_3 : (xj_over_a : Float) → (superellipse_conic_factors_of (of_bits binary32 0x4040_0000) xj_over_a).weight1 ≡ of_bits binary32 0x3f4a_1cac
unfolding opened
weight_at_3 xj_over_a = refl
