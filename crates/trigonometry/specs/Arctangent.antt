-- The angle of a point (x, y) from the x axis, positive towards y. The steps are `f64`, each rounded once, in the
-- order written here; only the result is narrowed. Definitions only.
use Rattle.std.specs.Prelude.{ℕ, not, ◌&&◌, Float, if◌then◌else◌}
use Rattle.std.specs.Float.{nan, binary64, pi}
use Rattle.std.specs.Float.Ieee.{neg, lt, le, eq}
use Rattle.std.specs.Float.Ieee.Scale.{finite}
use Rattle.ieee.specs.Binary64.{◌⊕◌, ◌⊖◌, ◌⊗◌, ◌⊘◌, zero, half, one, two, four}
use Rattle.ieee.specs.Basic.{widen_of, abs_of}
use Rattle.ieee.specs.Narrow.{narrow_of}
use Rattle.series.specs.Coefficients.{H, alternating, odd_reciprocal}

-- (-1)^k / (2k + 1)
unfoldable pub arctangent_term : ℕ → Float
arctangent_term = alternating odd_reciprocal

-- r - r³/3 + r⁵/5 - .., 26 terms of it
unfoldable pub series_of : Float → Float
series_of r = r ⊗ H arctangent_term (r ⊗ r) 25

-- the arctangent of an r from 0 to 1: the series where r ≤ 0.5, else π/4 and the series at (r - 1)/(r + 1)
unfoldable pub arctangent_of : Float → Float
arctangent_of r =
    if le r half then series_of r
    else pi binary64 ⊘ four ⊕ series_of ((r ⊖ one) ⊘ (r ⊕ one))

-- the arctangent of a/b if a ≤ b, else π/2 less that of b/a
unfoldable pub quarter_of : Float → Float → Float
quarter_of a b = if le a b then arctangent_of (a ⊘ b) else pi binary64 ⊘ two ⊖ arctangent_of (b ⊘ a)

-- π - v if x < 0
unfoldable pub mirrored_of : Float → Float → Float
mirrored_of x v = if lt x zero then pi binary64 ⊖ v else v

-- -v if y < 0, which -0 is not
unfoldable pub signed_of : Float → Float → Float
signed_of y v = if lt y zero then neg v else v

-- either not finite: NaN; both zero: 0; else the angle of the point (|x|, |y|), mirrored and signed as x and y are
unfoldable pub atan2_of : Float → Float → Float
atan2_of y x =
    let wy = widen_of y in
    let wx = widen_of x in
    if not (finite wy && finite wx) then nan
    else (if eq wy zero && eq wx zero then zero
    else narrow_of (signed_of wy (mirrored_of wx (quarter_of (abs_of wy) (abs_of wx)))))
