-- What the exported functions answer, case by case.
use mathlib.Core.Path.{◌≡◌, refl, ◌∙◌}
use mathlib.Core.Bool.{Bool, true, false, cond}
use mathlib.Core.List.{List}
use borrow.Author.Tests.{eq-eqb, ne_eqb}
use Prim.Native.Nat.{ℕ}
use lib.ListN.{length}
use lib.Ieee.{Float}
use Rattle.std.proofs.Common.{Result}
use Rattle.std.specs.Int.{from_bool}
use Rattle.shape.specs.declared.Bounds.{Bounds}
use Rattle.shape.specs.declared.CornerRadii.{CornerRadii}
use Rattle.shape.specs.Refusal.{shape_outcome_of, new_of}
use Rattle.shape.specs.declared.RoundSuperellipse.{RoundSuperellipse}
use Rattle.shape.specs.declared.ShapeError.{ShapeError}
use Rattle.geometry.specs.declared.Point.{Point}
use Rattle.shape.specs.Layout.{shape_at, bounds_at, radii_at}
use Rattle.containment.specs.Contains.{contains_of}
use Rattle.ffi_shape.specs.Making.{shape_answer, answer_by, make_of, holds_of}

-- the number of a bool
pub from_bool-is : (b : Bool) → from_bool b ≡ cond b 1 0
from_bool-is true = refl
from_bool-is false = refl

module _ (sizes old : List Float) where
  pub wrong_sizes : (length sizes ≡ 12 → ⊥) → shape_answer 100 old ≡ make_of sizes old
  unfolding make_of
  wrong_sizes h = rw (ne_eqb (length sizes) 12 h)

  pub wrong_shape : length sizes ≡ 12 → (length old ≡ 89 → ⊥) → shape_answer 100 old ≡ make_of sizes old
  unfolding make_of
  wrong_shape e h = rw (eq-eqb (length sizes) 12 e, ne_eqb (length old) 89 h)

  -- an answer to the bounds and the radii in the 12 floats
  pub made_as : (b : Bounds) (r : CornerRadii) (a x : Result RoundSuperellipse ShapeError) → length sizes ≡ 12 → length old ≡ 89 → b ≡ bounds_at sizes → r ≡ radii_at sizes → shape_outcome_of a ≡ new_of b r → a ≡ x
      → answer_by (shape_outcome_of x) old ≡ make_of sizes old
  unfolding make_of
  made_as b r a x e f eb er ea ex = rw (eq-eqb (length sizes) 12 e, eq-eqb (length old) 89 f, ← eb, ← er, ← ea, ex)

-- whether the shape holds the point, as a number
pub answered : (fs : List Float) (p : Point) (r : Bool) (n : ℕ) → length fs ≡ 89 → n ≡ from_bool r → r ≡ contains_of (shape_at fs) p → n ≡ holds_of fs p
unfolding holds_of
answered fs p r n el en er = rw (el, ← er) (en ∙ from_bool-is r)
