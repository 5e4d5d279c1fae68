-- The power of a base b and an exponent y: the first rule that applies. Definitions only.
use Rattle.std.specs.Prelude.{◌||◌, false, Float, if◌then◌else◌}
use Rattle.std.specs.Bool.{beq}
use Rattle.std.specs.Float.{nan, inf, binary64, float_is_infinite}
use Rattle.std.specs.Float.Ieee.{mul, lt, eq, ne}
use Rattle.ieee.specs.Binary32.{zero, one}
use Rattle.ieee.specs.Basic.{widen_of}
use Rattle.ieee.specs.Narrow.{narrow_of}
use Rattle.exponential.specs.Logarithm.{ln_of}
use Rattle.exponential.specs.Exponential.{exp_of}

-- exp(y·ln b), worked out in `f64` and narrowed
unfoldable pub main_of : Float → Float → Float
main_of b y = narrow_of (exp_of (mul binary64 (widen_of y) (ln_of (widen_of b))))

-- b or y NaN: NaN; b below 0: NaN; b = 1: 1; y = 0: 1; b = 0: 0 if y > 0, else infinity;
-- b infinite: infinity if y > 0, else 0; y infinite: 0 if (b < 1) is (y > 0), else infinity
unfoldable pub pow_of : Float → Float → Float
pow_of b y =
    if ne b b || ne y y then nan
    else (if lt b zero then nan
    else (if eq b one then one
    else (if eq y zero then one
    else (if eq b zero then (if lt zero y then zero else inf false)
    else (if float_is_infinite b then (if lt zero y then inf false else zero)
    else (if float_is_infinite y then (if beq (lt b one) (lt zero y) then zero else inf false)
    else main_of b y))))))
