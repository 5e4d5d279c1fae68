-- Where an octant asks for powers it answers by its superellipse, else by its circle or with true. Assumes nothing.
use mathlib.Core.Path.{◌≡◌, refl, sym}
use mathlib.Core.Bool.{Bool, true, false, cond, ◌||◌, true≢false}
use lib.Ieee.{lt, le}
use Rattle.geometry.specs.declared.Point.{Point}
use Rattle.ieee.specs.Binary32.{zero}
use Rattle.octant.specs.declared.Octant.{Octant}
use Rattle.containment.specs.Contains.{octant_contains_of}
use Rattle.containment.specs.Parts.{in_superellipse, asks_powers}

by_asking : (o s w c : Bool) → cond o false s ≡ true → cond o true (cond s w c) ≡ w
by_asking true s w c h = absurd (true≢false (sym h))
by_asking false true w c h = refl
by_asking false false w c h = absurd (true≢false (sym h))

pub asked : (o : Octant) (p : Point) → asks_powers o p ≡ true → octant_contains_of o p ≡ in_superellipse p o.se_a o.se_n
unfolding octant_contains_of in_superellipse asks_powers
asked o p h = by_asking (lt p.x zero || lt p.y zero || lt p.y p.x) (le p.x o.circle_start.x) _ _ h
