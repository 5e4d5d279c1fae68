-- `touch::try_button` meets its contract.
use Rattle.std.proofs.Common.{◌≡◌, ℕ, List, refl, sym, ap, ◌∙◌}
use native.Mathlib.Omega.{arith}
use Rattle.geometry.specs.declared.Point.{Point}
use Rattle.shape.specs.declared.RoundSuperellipse.{RoundSuperellipse}
use Rattle.shape.specs.declared.ShapeError.{ShapeError}
use Rattle.std.specs.Prelude.{Result, Ok, Err}
use Rattle.shape.specs.Refusal.{ShapeOutcome, refused, shape_outcome_of, number_of}
use Rattle.touch.specs.Touch.{takes}
use Rattle.touch.specs.Search.{points_in, places_after_shape}
use Rattle.touch.proofs.Marking.{places_after_shape-none, places_after_shape-all}
use Rattle.touch.proofs.try_button.Goals as goal

-- what is no shape takes no touch
not_made : (a : Result RoundSuperellipse ShapeError) → ((s : RoundSuperellipse) → a ≡ Ok s → ⊥) → (k : ℕ) (ps : List Point) (found : List ℕ) → found ≡ places_after_shape (takes (shape_outcome_of a)) k ps found
unfolding takes shape_outcome_of
not_made (Ok s) h k ps found = absurd (h s refl)
not_made (Err e) h k ps found = sym (places_after_shape-none (takes (refused (number_of e))) k ps found (λ p. refl))

-- every touch has its button
pub returns-then-not-contains : goal.returns-then-not-contains
returns-then-not-contains c = sym (places_after_shape-all _ _ _ _ (λ i h. c.if-not-contains.ensures.cases i 0 (omega arith) h))

pub returns-in-Ok : goal.returns-in-Ok
unfolding takes shape_outcome_of
returns-in-Ok c =
    let a = c.args in
    c.try_shape.ensures ∙ ap (λ (s : ShapeOutcome). places_after_shape (takes s) a.index (points_in a.points.now) a.results.now) (ap shape_outcome_of (sym c.in-Ok.is) ∙ c.shape_of.ensures)

pub returns-in_default : goal.returns-in_default
returns-in_default c =
    let a = c.args in
    not_made c.shape_of.result c.in_default.not-Ok _ _ _ ∙ ap (λ (s : ShapeOutcome). places_after_shape (takes s) a.index (points_in a.points.now) a.results.now) c.shape_of.ensures
