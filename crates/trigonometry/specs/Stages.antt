-- The last rule of atan2 in stages, so that several angles can go side by side, and where it applies. Cited by the
-- contracts of inner functions. Definitions only.
use Rattle.std.specs.Prelude.{Bool, not, ◌&&◌, Float, if◌then◌else◌}
use Rattle.std.specs.Float.{binary64, pi}
use Rattle.std.specs.Float.Ieee.{eq, le}
use Rattle.std.specs.Float.Ieee.Scale.{finite}
use Rattle.ieee.specs.Binary64.{◌⊖◌, ◌⊘◌, zero, two}
use Rattle.ieee.specs.Basic.{widen_of, abs_of}
use Rattle.trigonometry.specs.Arctangent.{quarter_of, mirrored_of, signed_of}
use Rattle.trigonometry.specs.declared.Place.{Place}

-- both finite, and not both zero
unfoldable pub plain : Float → Float → Bool
plain y x = finite y && finite x && not (eq y zero && eq x zero)

abbrev pub place_of : Float → Float → Place
place_of y x = record { y = widen_of y; x = widen_of x }

-- what the arctangent is taken of: the lesser of |y| and |x| over the greater
unfoldable pub ratio_of : Place → Float
ratio_of p = if le (abs_of p.y) (abs_of p.x) then abs_of p.y ⊘ abs_of p.x else abs_of p.x ⊘ abs_of p.y

-- the angle, from the arctangent of the ratio
unfoldable pub turned_of : Place → Float → Float
turned_of p v = signed_of p.y (mirrored_of p.x (if le (abs_of p.y) (abs_of p.x) then v else pi binary64 ⊘ two ⊖ v))

-- the angle, before it is narrowed
unfoldable pub angle_of : Place → Float
angle_of p = signed_of p.y (mirrored_of p.x (quarter_of (abs_of p.y) (abs_of p.x)))
