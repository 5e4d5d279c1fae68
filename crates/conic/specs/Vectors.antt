-- Conics in vectors of four floats, two points in each. Definitions only.
use Rattle.std.specs.Prelude.{◌≡◌, List, [], ◌∷◌, ℕ, ◌+◌, get_or, Float}
use Rattle.std.specs.Float.{nan}
use Rattle.geometry.specs.declared.Point.{Point}
use Rattle.conic.specs.declared.Conic.{Conic}
use Rattle.conic.specs.declared.Nearness.{Nearness}
use Rattle.conic.specs.Conic.{Halves, distance_of, chord_of, near_of}

-- the point whose coordinates stand at k and at k + 1
abbrev pub point_in : List Float → ℕ → Point
point_in v k = record { x = get_or v k nan; y = get_or v (k + 1) nan }

-- two points
abbrev pub pair : Point → Point → List Float
pair p q = p.x ∷ p.y ∷ q.x ∷ q.y ∷ []

-- a conic from the first to the second of two points; its control is the first point of another vector
abbrev pub conic_in : List Float → List Float → Float → Conic
conic_in ends ctrl w = record { from = point_in ends 0; ctrl = point_in ctrl 0; to = point_in ends 2; weight = w }

-- two halves with the weight u: where they start and where the left one ends, their controls, and where they
-- end and the right one starts
abbrev pub halves_in : List Float → List Float → List Float → Float → Halves
halves_in left ctrls right u = record {
  left = conic_in left ctrls u;
  right = record { from = point_in right 0; ctrl = point_in ctrls 2; to = point_in right 2; weight = u };
}

-- how far the middles of each half are apart, and then how long each chord is, squared
abbrev pub squares_of : Halves → List Float
squares_of h = distance_of h.left ∷ distance_of h.right ∷ chord_of h.left ∷ chord_of h.right ∷ []

-- which of two halves are near by their middles and their chords
abbrev pub IsNearnessOf : Halves → Nearness → Type 0
IsNearnessOf h n =
    (n.left ≡ near_of (distance_of h.left) (chord_of h.left))
    × (n.right ≡ near_of (distance_of h.right) (chord_of h.right))
