-- The simple operations, over both formats: `Float` holds the values of either, so a definition serves each width.
-- Definitions only.
use Rattle.std.specs.Prelude.{false, Float, if◌then◌else◌}
use Rattle.std.specs.Float.{nan, inf, fin, float_clamp}
use Rattle.std.specs.Float.Ieee.{lt, ne}

-- A value of the narrower format is a value of the wider one, the same number with the same sign; an infinity and a
-- NaN stay what they are.
unfoldable pub widen_of : Float → Float
widen_of x = x

-- the sign cleared, also that of -0 and of an infinity
unfoldable pub abs_of : Float → Float
abs_of nan = nan
abs_of (inf s) = inf false
abs_of (fin s m e) = fin false m e

-- the lesser of two; of a NaN and a number the number; of equals, -0 and +0 among them, the first
unfoldable pub min_of : Float → Float → Float
min_of a b = if ne a a then b else (if lt b a then b else a)

-- the greater of two; of a NaN and a number the number; of equals, -0 and +0 among them, the first
unfoldable pub max_of : Float → Float → Float
max_of a b = if ne a a then b else (if lt a b then b else a)

-- lo where x is below it, hi where x is above it, else x itself: a NaN stays a NaN
unfoldable pub clamp_of : Float → Float → Float → Float
clamp_of = float_clamp
