-- What the two exported functions on shapes answer. Definitions only.
use Rattle.std.specs.Prelude.{◌&&◌, List, ℕ, length, Float, if◌then◌else◌, ◌==◌}
use Rattle.ffi_floats.specs.Boundary.{wrong_length}
use Rattle.geometry.specs.declared.Point.{Point}
use Rattle.shape.specs.Refusal.{ShapeOutcome, made, refused, new_of}
use Rattle.shape.specs.Layout.{shape_floats, shape_at, bounds_at, radii_at}
use Rattle.containment.specs.Contains.{contains_of}

-- the number that is returned, and what is in the lent shape
pub record ShapeAnswer : Type 0 where
  pub number : ℕ
  pub shape : List Float

abbrev pub shape_answer : ℕ → List Float → ShapeAnswer
shape_answer n fs = record { number = n; shape = fs }

-- a shape that was made replaces the old one; a refusal leaves it
unfoldable pub answer_by : ShapeOutcome → List Float → ShapeAnswer
answer_by (made s) old = shape_answer 0 (shape_floats s)
answer_by (refused n) old = shape_answer n old

-- a shape made of 12 floats into 89, or the refusal's number
unfoldable pub make_of : List Float → List Float → ShapeAnswer
make_of sizes old =
    if length sizes == 12 && length old == 89 then answer_by (new_of (bounds_at sizes) (radii_at sizes)) old
    else shape_answer wrong_length old

-- 1 where the shape contains the point, 0 where not
unfoldable pub holds_of : List Float → Point → ℕ
holds_of fs p =
    if length fs == 89 then (if contains_of (shape_at fs) p then 1 else 0)
    else wrong_length
