-- How the answers to several touches are found together: the shapes one by one, from the last to the first, each
-- against all touches. Cited by the contracts of inner functions. Definitions only.
use Rattle.std.specs.Prelude.{ℕ, suc, ◌+◌, ◌*◌, Bool, List, [], ◌∷◌, set, Float}
use Rattle.geometry.specs.declared.Point.{Point}
use Rattle.panel_file.specs.declared.Record.{Record}
use Rattle.panel_file.specs.declared.Record.TheVariants.{Button as ButtonRecord, Touch as TouchRecord}
use Rattle.shape.specs.Refusal.{ShapeOutcome}
use Rattle.touch.specs.Touch.{code_of, place_of, top_hit, takes}

-- points as floats, two for each, and floats as points
unfoldable pub floats_of : List Point → List Float
floats_of [] = []
floats_of (p ∷ ps) = p.x ∷ p.y ∷ floats_of ps

unfoldable pub points_in : List Float → List Point
points_in [] = []
points_in (x ∷ []) = []
points_in (x ∷ y ∷ fs) = record { x = x; y = y } ∷ points_in fs

-- the places of touches, as numbers, after the shape of index k
unfoldable pub places_after_shape : (Point → Bool) → ℕ → List Point → List ℕ → List ℕ
places_after_shape hit k [] found = found
places_after_shape hit k (p ∷ ps) [] = []
places_after_shape hit k (p ∷ ps) (n ∷ found) =
    code_of (top_hit (place_of n) k (hit p)) ∷ places_after_shape hit k ps found

-- after all shapes from index k on, the last of them first
unfoldable pub places_after_shapes : List Point → ℕ → List ShapeOutcome → List ℕ → List ℕ
places_after_shapes ps k [] found = found
places_after_shapes ps k (s ∷ ss) found = places_after_shape (takes s) k ps (places_after_shapes ps (suc k) ss found)

-- after one record, whose point, if it is a touch, goes behind n points: how many there are then, and the floats
unfoldable pub count_after_record : Record → ℕ → ℕ
count_after_record (ButtonRecord b) n = n
count_after_record (TouchRecord p) n = n + 1

unfoldable pub floats_after_record : Record → ℕ → List Float → List Float
floats_after_record (ButtonRecord b) n fs = fs
floats_after_record (TouchRecord p) n fs = set (set fs (2 * n) p.x) (2 * n + 1) p.y
