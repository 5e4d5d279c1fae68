-- Points of the plane: arithmetic goes by component, each operation of binary32 rounded once, in the order written.
-- Definitions only.
use Rattle.std.specs.Prelude.{Bool, ◌&&◌, List, ℕ, ◌+◌, get_or, Float}
use Rattle.std.specs.Float.{binary32, nan}
use Rattle.std.specs.Float.Ieee.{add, sub, mul, div, neg}
use Rattle.std.specs.Float.Ieee.Scale.{finite}
use Rattle.ieee.specs.Binary32.{one}
use Rattle.ieee.specs.Basic.{abs_of}
use Rattle.ieee.specs.Sqrt.{sqrt_of}
use Rattle.geometry.specs.declared.Point.{Point}

-- one operation on both components
abbrev each : (Float → Float) → Point → Point
each g p = record { x = g p.x; y = g p.y }

-- one operation on the components of two points
abbrev both : (Float → Float → Float) → Point → Point → Point
both g p q = record { x = g p.x q.x; y = g p.y q.y }

-- p + q, p - q, p * q, p / q, by component
unfoldable pub add_of : Point → Point → Point
add_of p q = both (add binary32) p q

unfoldable pub sub_of : Point → Point → Point
sub_of p q = both (sub binary32) p q

unfoldable pub mul_of : Point → Point → Point
mul_of p q = both (mul binary32) p q

unfoldable pub div_of : Point → Point → Point
div_of p q = both (div binary32) p q

-- p * k and p / k, for a number k
unfoldable pub scale_of : Point → Float → Point
scale_of p k = each (λ z. mul binary32 z k) p

unfoldable pub shrink_of : Point → Float → Point
shrink_of p k = each (λ z. div binary32 z k) p

-- -p, and the point with both signs cleared
unfoldable pub neg_of : Point → Point
neg_of p = each neg p

unfoldable pub abs_point : Point → Point
abs_point p = each abs_of p

-- both components are finite
unfoldable pub finite_point : Point → Bool
finite_point p = finite p.x && finite p.y

-- x * x + y * y; that of the difference of two points; its root
unfoldable pub length_squared_of : Point → Float
length_squared_of p = add binary32 (mul binary32 p.x p.x) (mul binary32 p.y p.y)

unfoldable pub distance_squared_of : Point → Point → Float
distance_squared_of p q = length_squared_of (sub_of p q)

unfoldable pub length_of : Point → Float
length_of p = sqrt_of binary32 (length_squared_of p)

-- the point times the reciprocal of its length
unfoldable pub normalize_of : Point → Point
normalize_of p = scale_of p (div binary32 one (length_of p))

-- the point whose x and y stand at i and i + 1; a float past the end is a NaN
abbrev pub point_at : List Float → ℕ → Point
point_at fs i = record { x = get_or fs i nan; y = get_or fs (i + 1) nan }
