-- All four corners, or the one that describes them all, are the shape's answer.
use mathlib.Core.Path.{◌≡◌, refl, sym, ap, ◌∙◌}
use mathlib.Core.Bool.{Bool, true, false, ◌&&◌}
use mathlib.Core.List.{List}
use lib.ListN.{get_or}
use lib.Ieee.{Float, nan, eq, ne}
use Rattle.std.proofs.Math.Bool.{and-true}
use Rattle.geometry.specs.declared.Point.{Point}
use Rattle.ieee.specs.Binary32 as binary32
use Rattle.quadrant.specs.declared.Quadrant.{Quadrant}
use Rattle.quadrant.specs.Quadrant.{square_corner}
use Rattle.containment.specs.Contains.{round_contains, norm_contains, corner_contains_of, contains_of}
use Rattle.shape.specs.Layout.{quadrant_at, shape_at}
use Rattle.containment.specs.Floats.{corners_hold}

all_four : (a b c d : Bool) → (a && (b && (c && (d && true)))) ≡ (((a && b) && c) && d)
all_four true true true d = and-true d
all_four true true false d = refl
all_four true false c d = refl
all_four false b c d = refl

-- by all four where the last float is 0, else by the first, which describes them all
pub all_hold : (fs : List Float) (p : Point) → eq (get_or fs 88 nan) binary32.zero ≡ true → corners_hold fs p true 4 0 ≡ contains_of (shape_at fs) p
unfolding corners_hold contains_of shape_at ne
all_hold fs p e = all_four (corner_contains_of (quadrant_at fs 0) p true) (corner_contains_of (quadrant_at fs 22) p true) (corner_contains_of (quadrant_at fs 44) p true) (corner_contains_of (quadrant_at fs 66) p true) ∙ rw (e)

pub first_holds : (fs : List Float) (p : Point) → eq (get_or fs 88 nan) binary32.zero ≡ false → corner_contains_of (quadrant_at fs 0) p false ≡ contains_of (shape_at fs) p
unfolding contains_of shape_at ne
first_holds fs p e = rw (e)

-- a corner c that is known not to be square
pub round-asked : (q c : Quadrant) (n : Point) (s r : Bool) → c ≡ q → s ≡ square_corner c → s ≡ false → r ≡ round_contains q n → r ≡ norm_contains q n
unfolding norm_contains
round-asked q c n s r eq es ef er = rw (sym (es ∙ ap square_corner eq), ef) er
