-- The worked examples of degrees, by computation. Assumes nothing.
use mathlib.Core.Path.{◌≡◌, refl}
use mathlib.Core.Bool.{true}
use lib.Ieee.{binary32, of_bits, add, sub, mul, div, neg, lt, le, eq, round, of_int, to_unsigned}
use Rattle.ieee.specs.Basic.{clamp_of}
use Rattle.geometry.specs.declared.Point.{Point}
use Rattle.ieee.specs.Binary32.{zero, two, one}
use Rattle.octant.specs.Degree.{corner_at, first_max_ratio, second_max_ratio, table_steps_of, n_and_xj_of}
use Rattle.octant.specs.Octant.{close_enough, point, compute_octant_of}

-- opens the float operations and the solver's definitions at once
unfoldable opened : Unit {0}
unfolding add sub mul div neg lt le eq round of_int of_bits to_unsigned clamp_of corner_at table_steps_of n_and_xj_of compute_octant_of
opened = tt

-- Ratio 5: the degree is 6.430238, the last row's; ratio 2.5: 2.7514899.
pub degree_at_5 : (n_and_xj_of second_max_ratio).n ≡ of_bits binary32 0x40cd_c482
unfolding opened
degree_at_5 = refl

pub last-row-at_5 : (n_and_xj_of second_max_ratio).n ≡ corner_at 10 0
unfolding opened
last-row-at_5 = refl

pub degree_at_2½ : (n_and_xj_of first_max_ratio).n ≡ of_bits binary32 0x4030_1869
unfolding opened
degree_at_2½ = refl

-- An octant of half-extent 1 at the center p: with the radius 1e-3 it is square, of degree 0; with the next float the degree is above 2.
pub sharp : (p : Point) → compute_octant_of p one close_enough ≡ record { offset = p; se_a = one; se_n = zero; circle_start = point one one; circle_center = point zero zero; circle_max_angle = zero }
unfolding opened
sharp p = refl

pub above-sharp : (p : Point) → lt two (compute_octant_of p one (of_bits binary32 0x3a83_1270)).se_n ≡ true
unfolding opened
above-sharp p = refl
