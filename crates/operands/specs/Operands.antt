-- The floats that the words of a line spell, and the bounds and radii that twelve of them are. Definitions only.
use Rattle.std.specs.Prelude.{ℕ, zero, suc, List, [], ◌∷◌, ◌++◌, length, get_or, nat_le, Float, Option, Some, None, if◌then◌else◌, ◌==◌}
use Rattle.std.specs.Float.{nan}
use Rattle.geometry.specs.declared.Point.{Point}
use Rattle.shape.specs.declared.Bounds.{Bounds}
use Rattle.shape.specs.declared.CornerRadii.{CornerRadii}
use Rattle.text.specs.Numbers.{single_of}
use Rattle.text.specs.Words.{first_word, after_word}

-- with one more, if it is one and there are not 14 yet; none where there is no good list
unfoldable pub with_single : List Float → Option Float → Option (List Float)
with_single x (Some v) = if nat_le 14 (length x) then None else Some (x ++ v ∷ [])
with_single x None = None

unfoldable pub with_next : Option (List Float) → List ℕ → Option (List Float)
with_next (Some x) word = with_single x (single_of word)
with_next None word = None

-- a step with each of the first n words of a line
unfoldable pub over_words : {S : Type 0} → (S → List ℕ → S) → ℕ → S → List ℕ → S
over_words step zero x s = x
over_words step (suc n) x s =
    if length (first_word s) == 0 then x else over_words step n (step x (first_word s)) (after_word s)

-- all that a line spells, which has no more words than bytes
unfoldable pub operands_of : List ℕ → Option (List Float)
operands_of s = over_words with_next (length s) (Some []) s

-- the point of operands i and i + 1
abbrev pub point_at : List Float → ℕ → Point
point_at x i = record { x = get_or x i nan; y = get_or x (suc i) nan }

-- min, max, then the radii top left, top right, bottom left, bottom right
unfoldable pub bounds_of : List Float → Bounds
bounds_of x = record { min = point_at x 0; max = point_at x 2 }

unfoldable pub radii_of : List Float → CornerRadii
radii_of x =
    record {
      top_left = point_at x 4;
      top_right = point_at x 6;
      bottom_left = point_at x 8;
      bottom_right = point_at x 10;
    }
