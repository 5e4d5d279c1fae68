-- What the exported functions on outlines answer: an outline drawn, what an outline or a conic needs, and whether the
-- outline and the touch area of a shape are consistent. Shapes and records stand in lent numbers. Definitions only.
use Rattle.std.specs.Prelude.{◌&&◌, List, [], ◌∷◌, ℕ, length, Float, if◌then◌else◌, ◌==◌}
use Rattle.ffi_floats.specs.Boundary.{wrong_length}
use Rattle.geometry.specs.declared.Point.{Point}
use Rattle.stream.specs.declared.Need.{Need}
use Rattle.stream.specs.Stream.{State, is_empty, need_of}
use Rattle.conic_writer.specs.Entries.{elements_of}
use Rattle.calls.specs.declared.Call.TheVariants.{ConicTo}
use Rattle.calls.specs.Calls.{entries_of}
use Rattle.outline_need.specs.Entries.{outline_entries}
use Rattle.outline.specs.declared.BuildingCall.TheVariants.{AddTo}
use Rattle.outline.specs.Step.{step}
use Rattle.consistency.specs.Consistency.{consistent_of}
use Rattle.ffi_shape.specs.Layout.{shape_at, bounds_at}
use Rattle.ffi_path.specs.Lent.{builder_at, fitting, PathAnswer, path_answer, lent_by}

-- the outline of a shape drawn into a record: number, record and buffers as of the other six calls
abbrev pub outline_left : List Float → List ℕ → List Float → List ℕ → List Float → PathAnswer
outline_left shape counts places vs fs = lent_by (λ (s : State). step s (AddTo (shape_at shape))) counts places vs fs

unfoldable pub add_of : List Float → List ℕ → List Float → List ℕ → List Float → PathAnswer
add_of shape counts places vs fs =
    if length shape == 89 then outline_left shape counts places vs fs else path_answer wrong_length counts places vs fs

-- the number that is returned, and what is in the slice lent for a need
pub record Needed : Type 0 where
  pub number : ℕ
  pub need : List ℕ

abbrev pub needed : ℕ → List ℕ → Needed
needed n l = record { number = n; need = l }

-- verbs, then points
unfoldable pub numbers_of : Need → List ℕ
numbers_of n = n.verbs ∷ n.points ∷ []

-- what an outline adds to a record's counts
unfoldable pub outline_need_of : List Float → List ℕ → Needed
outline_need_of shape old =
    if length shape == 89 && length old == 2
    then needed 0 (numbers_of (need_of (elements_of (outline_entries (shape_at shape)))))
    else needed wrong_length old

-- what a conic adds to them, with the opening move of an empty path
unfoldable pub conic_need_of : List ℕ → List Float → Point → Point → Float → List ℕ → Needed
conic_need_of counts places ctrl to weight old =
    let b = builder_at counts places in
    if length old == 2 && fitting (length counts) (length places)
    then needed 0 (numbers_of (need_of (elements_of (entries_of (is_empty b) b.pen (ConicTo ctrl to weight)))))
    else needed wrong_length old

-- 1 where the outline and the touch area of a shape, made for the bounds in the sizes, are consistent, 0 where not
unfoldable pub consistency_of : List Float → List Float → ℕ
consistency_of sizes shape =
    if length sizes == 12 && length shape == 89
    then (if consistent_of (bounds_at sizes) (shape_at shape) then 1 else 0)
    else wrong_length
