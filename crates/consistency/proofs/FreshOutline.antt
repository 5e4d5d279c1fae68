-- An outline drawn on a fresh builder with room for the largest one: it is accepted, and the floats held are those of its elements.
use mathlib.Core.Path.{◌≡◌, refl, sym, ap, subst, ◌∙◌}
use mathlib.Core.List.{List}
use mathlib.Core.Bool.{true}
use Prim.Native.Nat.{ℕ, ◌+◌, ◌*◌, ◌/◌, ◌≤◌}
use native.Mathlib.Omega.{arith}
use lib.ListN.{length, take}
use borrow.Author.Tests.{le-leb}
use lib.Ieee.{Float}
use Rattle.std.proofs.Common.{Result, Ok, Err}
use Rattle.stream.specs.declared.Builder.{Builder}
use Rattle.stream.specs.declared.Element.{Element}
use Rattle.stream.specs.Stream.{State, state, fresh_builder, has_room, room_for, all_floats, sizes_of, push_all}
use Rattle.reader.proofs.Holding.{Holding, holding_none, holding_good, holding_all}
use Rattle.conic_writer.specs.Entries.{elements_of}
use Rattle.calls.specs.declared.BuildError.{BuildError}
use Rattle.calls.specs.declared.BuildError.TheVariants.{BadRecord, NoRoom}
use Rattle.calls.specs.Calls.{Outcome, outcome, attempt, outcome_of}
use Rattle.shape.specs.declared.RoundSuperellipse.{RoundSuperellipse}
use Rattle.outline_need.specs.Entries.{outline_entries}
use Rattle.outline_need.proofs.Turns.{outline_parts}
use Rattle.outline.specs.declared.BuildingCall.TheVariants.{AddTo}
use Rattle.outline.specs.Step.{step}

-- an outline drawn on a record that is fresh
pub fresh_step : (b : Builder) (vs : List ℕ) (fs : List Float) (shape : RoundSuperellipse) {o : Outcome} → b ≡ fresh_builder → o ≡ step (state b vs fs) (AddTo shape) → o ≡ step (state fresh_builder vs fs) (AddTo shape)
fresh_step b vs fs shape e h = h ∙ ap (λ (x : Builder). step (state x vs fs) (AddTo shape)) e

module _ (vs : List ℕ) (fs : List Float) (shape : RoundSuperellipse) (v : length vs ≡ 1035) (f : length fs ≡ 4148) where
  abbrev s : State
  s = state fresh_builder vs fs

  abbrev ks : List Element
  ks = elements_of (outline_entries shape)

  room : room_for s ks ≡ true
  unfolding has_room
  room =
      let z = (outline_parts shape).sizes in
      let a = le-leb (0 + length ks) (length vs) (omega (arith, z.most)) in
      let b = le-leb (0 + sizes_of ks) (length fs / 2) (omega (arith, z.most_points)) in
      rw (a, b)

  -- it is accepted
  accepted : step s (AddTo shape) ≡ outcome 0 0 (push_all s ks)
  unfolding step attempt
  accepted = rw (holding_good (holding_none s refl refl), room)

  holding : Holding (push_all s ks) ks
  unfolding sizes_of
  holding =
      let z = (outline_parts shape).sizes in
      (holding_all ks (holding_none s refl refl) (omega (arith, z.most)) (omega (arith, z.most_points))).holding

  pub never_refused : (r : Result Builder BuildError) (vs' : List ℕ) (fs' : List Float) → ((b : Builder) → r ≡ Ok b → ⊥) → outcome_of r vs' fs' ≡ step s (AddTo shape) → ⊥
  never_refused (Ok b) vs' fs' h e = h b refl
  never_refused (Err (BadRecord b)) vs' fs' h e = let n = ap (λ (o : Outcome). o.number) (e ∙ accepted) in omega arith
  never_refused (Err (NoRoom b)) vs' fs' h e = let n = ap (λ (o : Outcome). o.number) (e ∙ accepted) in omega arith

  -- its floats stand in front, and there are as many as the buffer holds at most
  pub record OutlineInFront (b : Builder) (fs' : List Float) : Type 0 where
    pub few : 2 * b.points ≤ 4148
    pub floats : take (2 * b.points) fs' ≡ all_floats ks

  pub outline-in_front : (r : Result Builder BuildError) (b : Builder) (vs' : List ℕ) (fs' : List Float) → r ≡ Ok b → outcome_of r vs' fs' ≡ step s (AddTo shape) → OutlineInFront b fs'
  outline-in_front r b vs' fs' d e =
      let t : state b vs' fs' ≡ push_all s ks = ap (λ (o : Outcome). o.state) (ap (λ (x : Result Builder BuildError). outcome_of x vs' fs') (sym d) ∙ e ∙ accepted) in
      let h = subst (λ (x : State). Holding x ks) (sym t) holding in
      let z = (outline_parts shape).sizes in
      record { few = omega (arith, h.size, z.most_points); floats = ap (λ (n : ℕ). take (2 * n) fs') h.size ∙ h.floats }
