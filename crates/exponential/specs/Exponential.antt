-- The exponential. The steps are `f64`, each rounded once, in the order written here. Definitions only.
use Rattle.std.specs.Prelude.{◌+◌, ◌-◌, ◌*◌, ◌/◌, Bool, true, false, ◌&&◌, ℤ, pos, neg_ℤ, Float, if◌then◌else◌}
use Rattle.std.specs.Float.{nan, inf, fin, binary64}
use Rattle.std.specs.Float.Ieee.{of_bits, neg, lt, of_int, up, down}
use Rattle.ieee.specs.Binary64.{◌⊕◌, ◌⊖◌, ◌⊗◌, ◌⊘◌, zero, half}
use Rattle.series.specs.Coefficients.{H, factorial_reciprocal}
use Rattle.exponential.specs.Constants.{hundred, lowest, ln2}

-- the greatest whole number not above x; x is m·2^e, the fraction m·up e / down e
unfoldable pub floor_of : Float → ℤ
floor_of nan = pos 0
floor_of (inf s) = pos 0
floor_of (fin false m e) = pos (m * up e / down e)
floor_of (fin true m e) = neg_ℤ (pos ((m * up e + (down e - 1)) / down e))

-- Above 100 it is past the largest `f32` and below -110 less than half of the least: infinity and zero stand for it.
-- Else t is g·ln 2 + r with a whole number g, and exp t is 2^g·exp r: of exp r = 1 + r + r²/2! + r³/3! + .. fourteen
-- terms are summed.
unfoldable pub exp_of : Float → Float
exp_of t =
    if lt hundred t then inf false
    else (if lt t lowest then zero
    else (let g = floor_of (t ⊘ ln2 ⊕ half) in
    let r = t ⊖ of_int binary64 g ⊗ ln2 in
    H factorial_reciprocal r 13 ⊗ fin false 1 g))

-- within 1000 of 0, as t/ln 2 + 0.5 is for every t from -110 to 100
abbrev pub within : Float → Bool
within q = lt (neg (of_bits binary64 0x408f_4000_0000_0000)) q && lt q (of_bits binary64 0x408f_4000_0000_0000)
