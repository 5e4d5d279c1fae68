-- One step of the Rust's push_conic: which conics are a line, when a conic is flat enough for one quad, and how
-- it is halved. Each float operation of binary32 is rounded once, in the order of the Rust. Definitions only.
use Rattle.std.specs.Prelude.{Bool, true, false, not, ◌||◌, Float, if◌then◌else◌}
use Rattle.std.specs.Float.{binary32}
use Rattle.std.specs.Float.Ieee.{of_bits, add, sub, mul, div, lt, le}
use Rattle.std.specs.Float.Ieee.Scale.{finite}
use Rattle.ieee.specs.Binary32.{one, zero, two, half, quarter}
use Rattle.ieee.specs.Basic.{abs_of}
use Rattle.ieee.specs.Sqrt.{sqrt_of}
use Rattle.geometry.specs.declared.Point.{Point}
use Rattle.geometry.specs.Point.{add_of, sub_of, scale_of, shrink_of, length_squared_of, length_of, finite_point}
use Rattle.conic.specs.declared.Conic.{Conic}
use Rattle.conic.specs.declared.Lowered.{Lowered}
use Rattle.conic.specs.declared.Lowered.TheVariants.{Line, Curve}

-- 1e-3
abbrev pub thousandth : Float
thousandth = of_bits binary32 0x3a83_126f

-- a weight not finite or at most 0, or a control or target not finite; the pen, c.from, is not tested
unfoldable pub is_line : Conic → Bool
is_line c = not (finite c.weight) || le c.weight zero || not (finite_point c.ctrl) || not (finite_point c.to)

-- one line to the target, or the curve itself
unfoldable pub lower_of : Conic → Lowered
lower_of c = if is_line c then Line c.to else Curve c

-- the conic's point at its middle parameter
unfoldable pub conic_mid : Conic → Point
conic_mid c =
    let sum = add_of (add_of c.from (scale_of c.ctrl (mul binary32 two c.weight))) c.to in
    shrink_of sum (mul binary32 two (add binary32 one c.weight))

-- the same of the quad with its control and target
unfoldable pub quad_mid : Conic → Point
quad_mid c =
    let sum = add_of (add_of c.from (scale_of c.ctrl two)) c.to in
    scale_of sum quarter

-- how far the two middles are apart, and how long the chord is, squared
abbrev pub distance_of : Conic → Float
distance_of c = length_squared_of (sub_of (conic_mid c) (quad_mid c))

abbrev pub chord_of : Conic → Float
chord_of c = length_squared_of (sub_of c.to c.from)

-- of two squared lengths, the length of d is at most a thousandth of the length of c, which is above 0
unfoldable pub near_of : Float → Float → Bool
near_of d c =
    let chord = sqrt_of binary32 c in
    if lt zero chord then le (sqrt_of binary32 d) (mul binary32 thousandth chord) else false

-- a weight near 1
abbrev pub near_one_of : Float → Bool
near_one_of w = le (abs_of (sub binary32 w one)) thousandth

-- flat enough for one quad: the weight is near 1, or the two middles are near each other, measured by a chord above 0
unfoldable pub flat_of : Conic → Bool
flat_of c =
    if near_one_of c.weight then true
    else (let chord = length_of (sub_of c.to c.from) in
    if lt zero chord then le (length_of (sub_of (conic_mid c) (quad_mid c))) (mul binary32 thousandth chord) else false)

-- the weight of both halves of a conic with this weight
unfoldable pub half_weight_of : Float → Float
half_weight_of w = sqrt_of binary32 (mul binary32 (add binary32 one w) half)

pub record Halves : Type 0 where
  pub left : Conic
  pub right : Conic

-- both halves, by de Casteljau's construction for a rational quadratic
unfoldable pub split_of : Conic → Halves
split_of c =
    let scale = div binary32 one (add binary32 one c.weight) in
    let weighted = scale_of c.ctrl c.weight in
    let left = scale_of (add_of c.from weighted) scale in
    let right = scale_of (add_of weighted c.to) scale in
    let sum = add_of (add_of c.from (scale_of c.ctrl (mul binary32 two c.weight))) c.to in
    let mid = scale_of sum (mul binary32 half scale) in
    let weight = half_weight_of c.weight in
    record {
      left = record { from = c.from; ctrl = left; to = mid; weight = weight };
      right = record { from = mid; ctrl = right; to = c.to; weight = weight };
    }
