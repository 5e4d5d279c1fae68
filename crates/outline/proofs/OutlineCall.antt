-- An outline as a call: admitted or refused by its need, written from what was drawn.
use mathlib.Core.Path.{◌≡◌, refl, sym, ap, subst, ◌∙◌}
use mathlib.Core.List.{List}
use lib.ListN.{length}
use Rattle.std.specs.Prelude.{⊤}
use Rattle.std.proofs.Common.{Result, Ok, Err}
use Rattle.stream.specs.declared.Builder.{Builder}
use Rattle.stream.specs.declared.Element.{Element}
use Rattle.stream.specs.declared.Need.{Need}
use Rattle.stream.specs.Stream.{State, origin, need_of, push_all, Fits, start_after, pen_after}
use Rattle.stream.proofs.Tests.{room-is}
use Rattle.conic_writer.specs.Entries.{elements_of}
use Rattle.calls.specs.declared.BuildError.{BuildError}
use Rattle.calls.specs.Calls.{entries_of, outcome, without_word, outcome_of, admit_of}
use Rattle.calls.proofs.Admission.{Admitted, admitted_for, refused-is, done-is, passed_on}
use Rattle.calls.proofs.Largest.{Covered}
use Rattle.outline_need.proofs.Turns.{outline-sizes}
use Rattle.shape.specs.declared.RoundSuperellipse.{RoundSuperellipse}
use Rattle.outline_corners.specs.declared.Outline.{Outline}
use Rattle.outline_corners.specs.Calls.{Drawing, drawing_of, calls_in, outline_of, outline_calls}
use Rattle.outline_need.specs.Entries.{entries_along, outline_entries, elements_along, push_calls, RoomAlong}
use Rattle.outline.specs.declared.BuildingCall.TheVariants.{AddTo}
use Rattle.outline.specs.Step.{step}

-- what is drawn begins with a move, so it is the same from every pen
elements_anywhere : (s : State) (d : Drawing) → elements_along s (calls_in d) ≡ elements_of (entries_along origin origin (calls_in d))
unfolding calls_in entries_along entries_of elements_of start_after pen_after
elements_anywhere s d = refl

-- its need is covered by that of the largest outline
pub outline_covered : (o : Outline) → Covered (need_of (elements_of (entries_along origin origin (calls_in (drawing_of o))))) (record { verbs = 1035; points = 2074 })
outline_covered o = let z = outline-sizes o in record { verbs = z.most; points = z.most_points }

module _ (s : State) (shape : RoundSuperellipse) (o : Outline) (e : drawing_of o ≡ outline_of shape) where
  abbrev outline_elements : List Element
  outline_elements = elements_of (entries_along origin origin (calls_in (drawing_of o)))

  abbrev here : Need → Result ⊤ BuildError
  here n = admit_of s.builder (length s.verbs) (length s.floats) n

  abbrev AdmittedHere : Type 0
  AdmittedHere = Admitted s.builder (length s.verbs) (length s.floats) (need_of (elements_of (outline_entries shape)))

  elements-are : outline_elements ≡ elements_of (outline_entries shape)
  unfolding outline_entries outline_calls
  elements-are = ap (λ (d : Drawing). elements_of (entries_along origin origin (calls_in d))) e

  pub outline_refused : (n : Need) (a : Result ⊤ BuildError) (r : Result Builder BuildError) (x : BuildError) → n ≡ need_of outline_elements → a ≡ here n → a ≡ Err x → r ≡ Err x → outcome_of r s.verbs s.floats ≡ step s (AddTo shape)
  unfolding step
  outline_refused n a r x f h w q =
      passed_on r x s.verbs s.floats q ∙ ap without_word (refused-is s (outline_entries shape) x (sym w ∙ h ∙ ap (λ (m : Need). here m) (f ∙ ap need_of elements-are)))

  pub outline_admitted : (n : Need) (r : Result ⊤ BuildError) (x : ⊤) → n ≡ need_of outline_elements → r ≡ here n → r ≡ Ok x → AdmittedHere
  outline_admitted n r x f a d = admitted_for s.builder x (length s.verbs) (length s.floats) n (outline_entries shape) (outline_entries shape) (f ∙ ap need_of elements-are) refl a d

  pub outline_room : AdmittedHere → RoomAlong s (calls_in (drawing_of o))
  outline_room h =
      subst (λ (ks : List Element). Fits s.builder s.verbs s.floats ks) (sym (elements_anywhere s (drawing_of o) ∙ elements-are)) (room-is s.builder (length s.verbs) (length s.floats) (need_of (elements_of (outline_entries shape))) h.room)

  pub outline_done : (t : State) → AdmittedHere → t ≡ push_calls s (calls_in (drawing_of o)) → outcome 0 0 t ≡ step s (AddTo shape)
  unfolding step push_calls
  outline_done t h f = ap without_word (done-is s (outline_entries shape) t h (f ∙ ap (push_all s) (elements_anywhere s (drawing_of o) ∙ elements-are)))
