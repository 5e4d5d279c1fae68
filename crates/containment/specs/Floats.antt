-- What the parts of `floats::contains` answer, of a shape that stands in floats. Cited by the contracts of inner
-- functions. Definitions only.
use Rattle.std.specs.Prelude.{Bool, true, ◌&&◌, List, ◌++◌, ℕ, zero, suc, ◌+◌, ◌*◌, ◌/◌, ◌%◌, get_or, Float, if◌then◌else◌, ◌==◌}
use Rattle.std.specs.Float.{nan}
use Rattle.geometry.specs.Point.{sub_of, div_of, point_at}
use Rattle.geometry.specs.declared.Point.{Point}
use Rattle.octant.specs.Octant.{point}
use Rattle.shape.specs.Layout.{point_floats, quadrant_at}
use Rattle.containment.specs.Contains.{norm_contains, corner_contains_of}

-- n corners from the k-th on hold the point
unfoldable pub corners_hold : List Float → Point → Bool → ℕ → ℕ → Bool
corners_hold fs p check zero k = true
corners_hold fs p check (suc n) k =
    corner_contains_of (quadrant_at fs (22 * k)) p check && corners_hold fs p check n (k + 1)

-- a point in the own space of the corner whose floats begin at i
abbrev own_at : List Float → ℕ → Point → Point
own_at fs i p = div_of (sub_of p (point_at fs i)) (point_at fs (i + 2))

-- a point in the own spaces of that corner and of the next, as a vector: x, y, x, y
abbrev pub own_points : List Float → ℕ → Point → List Float
own_points fs i p = point_floats (own_at fs i p) ++ point_floats (own_at fs (i + 22) p)

-- whether the k-th corner holds its own of the points (x, y)
abbrev pub own_answers : List Float → List Float → List Float → ℕ → Bool
own_answers fs x y k = norm_contains (quadrant_at fs (22 * k)) (point (get_or x k nan) (get_or y k nan))

-- h of each of the numbers 0 to 3 whose bit is set
unfoldable pub asked_hold : (ℕ → Bool) → ℕ → Bool
asked_hold h asked =
    (if asked % 2 == 1 then h 0 else true)
    && ((if asked / 2 % 2 == 1 then h 1 else true)
    && ((if asked / 4 % 2 == 1 then h 2 else true)
    && ((if asked / 8 % 2 == 1 then h 3 else true) && true)))
