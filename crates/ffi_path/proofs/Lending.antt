-- A call on a record in lent numbers, case by case.
use mathlib.Core.Path.{◌≡◌, refl, sym, ap, ◌∙◌}
use mathlib.Core.Bool.{Bool, true, false, cond}
use mathlib.Core.List.{List, ◌++◌, append-nil}
use Prim.Native.Nat.{ℕ}
use native.Mathlib.Nat.{zero-add, le_of_eq}
use borrow.Author.Tests.{eqb-true, eq-eqb, ne_eqb}
use lib.ListN.{length, drop}
use lib.Seq.{sets, sets-eq, drop-length}
use lib.Dec.{eqb}
use lib.Ieee.{Float}
use Rattle.std.specs.Prelude.{MatchResult, IsOkAnd}
use Rattle.std.proofs.Common.{Option, Some, None, Result, Err}
use Rattle.conic_writer.specs.Entries.{plainly_written}
use Rattle.conic_writer.specs.declared.Written.{Written}
use Rattle.stream.specs.declared.Builder.{Builder}
use Rattle.stream.proofs.Tests.{and_left, and_right, and-false}
use Rattle.stream.specs.Stream.{State, state}
use Rattle.calls.specs.declared.BuildError.{BuildError}
use Rattle.calls.specs.declared.BuildError.TheVariants.{BadRecord, NoRoom}
use Rattle.calls.specs.declared.Call.{Call}
use Rattle.calls.specs.Calls.{Outcome, number_of, refusal_of, outcome_of, conic_outcome_of, step}
use Rattle.calls.proofs.Opened.{no_word}
use Rattle.ffi_path.specs.Lent.{builder_at, record_in, fitting, HoldsRecord, from_record, PathAnswer, path_answer, answer_by, lent_by, lent_step}

-- stores that fill a list
pub filled {ℓ} : {A : Type ℓ} (l vs : List A) → length l ≡ length vs → sets l 0 vs ≡ vs
filled l vs e =
    sets-eq vs l 0 (le_of_eq (zero-add (length vs) ∙ sym e))
    ∙ ap (λ (k : ℕ). vs ++ drop k l) (zero-add (length vs) ∙ sym e)
    ∙ ap (λ (r : List _). vs ++ r) (drop-length l)
    ∙ append-nil vs

pub fitting-is : (n m : ℕ) (r : Bool) → r ≡ fitting n m → r ≡ true → (n ≡ 3) × (m ≡ 4)
unfolding fitting
fitting-is n m r e t = let h = sym e ∙ t in (eqb-true n 3 (and_left (eqb n 3) (eqb m 4) h), eqb-true m 4 (and_right (eqb n 3) (eqb m 4) h))

-- the record of slices that hold one
pub record RecordIn (counts : List ℕ) (places : List Float) (b : Builder) : Type 0 where
  pub counted : length counts ≡ 3
  pub placed : length places ≡ 4
  pub fits : fitting (length counts) (length places) ≡ true
  pub builder : b ≡ builder_at counts places

record_go : (counts : List ℕ) (places : List Float) (b : Builder) (t : Bool) → fitting (length counts) (length places) ≡ t → Some b ≡ cond t (Some (builder_at counts places)) None → RecordIn counts places b
record_go counts places b true e h = let l = fitting-is _ _ _ (sym e) refl in record { counted = l.0; placed = l.1; fits = e; builder = cc }
record_go counts places b false e h = absurd cc

pub record_is : (counts : List ℕ) (places : List Float) (b : Builder) (r : Option Builder) → r ≡ record_in counts places → r ≡ Some b → RecordIn counts places b
unfolding record_in
record_is counts places b r e h = record_go counts places b _ refl (sym h ∙ e)

no_go : (counts : List ℕ) (places : List Float) (t : Bool) → None ≡ cond t (Some (builder_at counts places)) None → t ≡ false
no_go counts places true h = absurd cc
no_go counts places false h = refl

pub no_record : (counts : List ℕ) (places : List Float) (r : Option Builder) → r ≡ record_in counts places → r ≡ None → fitting (length counts) (length places) ≡ false
unfolding record_in
no_record counts places r e h = no_go counts places _ (sym h ∙ e)

-- slices that hold none, or one
module _ (counts : List ℕ) (places : List Float) where
  pub not_counts : (length counts ≡ 3 → ⊥) → None ≡ record_in counts places
  unfolding record_in fitting
  not_counts h = rw (ne_eqb (length counts) 3 h)

  pub not_places : (length places ≡ 4 → ⊥) → None ≡ record_in counts places
  unfolding record_in fitting
  not_places h = rw (ne_eqb (length places) 4 h, and-false (eqb (length counts) 3))

  pub as_record : length counts ≡ 3 → length places ≡ 4 → Some (builder_at counts places) ≡ record_in counts places
  unfolding record_in fitting
  as_record h k = rw (eq-eqb (length counts) 3 h, eq-eqb (length places) 4 k)

-- a refusal leaves the record
pub refusal_left : (e : BuildError) (n : ℕ) (counts : List ℕ) (places : List Float) (vs : List ℕ) (fs : List Float) → n ≡ number_of e → path_answer n counts places vs fs ≡ answer_by (refusal_of e vs fs) counts places
unfolding answer_by
refusal_left (BadRecord b) n counts places vs fs h = rw h
refusal_left (NoRoom b) n counts places vs fs h = rw h

-- what is made of the record that was loaded
module _ {X : Type 0} (counts : List ℕ) (places : List Float) (f : Builder → X) (wrong : X) (r : Option Builder) (loaded : r ≡ record_in counts places) where
  pub with_none : r ≡ None → wrong ≡ from_record counts places f wrong
  with_none e = rw (no_record counts places r loaded e)

  pub with_some : (b : Builder) → r ≡ Some b → f b ≡ from_record counts places f wrong
  with_some b e = let k = record_is counts places b r loaded e in rw k.fits (ap f k.builder)

-- a call of any kind
module _ (f : State → Outcome) (counts : List ℕ) (places : List Float) (vs : List ℕ) (fs : List Float) (r : Option Builder) (loaded : r ≡ record_in counts places) where
  here : Builder → PathAnswer
  here b = answer_by (f (state b vs fs)) counts places

  pub wrong_lengths : r ≡ None → path_answer 100 counts places vs fs ≡ lent_by f counts places vs fs
  unfolding here
  wrong_lengths = with_none counts places here (path_answer 100 counts places vs fs) r loaded

  pub lent : (b : Builder) (o : Outcome) (l : PathAnswer) → r ≡ Some b → o ≡ f (state b vs fs) → l ≡ answer_by o counts places → l ≡ lent_by f counts places vs fs
  unfolding here
  lent b o l e eo el = el ∙ ap (λ (x : Outcome). answer_by x counts places) eo ∙ with_some counts places here (path_answer 100 counts places vs fs) r loaded b e

-- one of the six
module _ (c : Call) (counts : List ℕ) (places : List Float) (vs : List ℕ) (fs : List Float) (r : Option Builder) (loaded : r ≡ record_in counts places) where
  pub step_wrong_lengths : r ≡ None → path_answer 100 counts places vs fs ≡ lent_step c counts places vs fs
  unfolding lent_step
  step_wrong_lengths = wrong_lengths (λ (s : State). step s c) counts places vs fs r loaded

  module _ (b : Builder) (is : r ≡ Some b) where
    pub holds_record : HoldsRecord counts places
    holds_record = let k = record_is counts places b r loaded is in (k.counted, k.placed)

    -- a conic, and a call that has no joint word
    pub marked_step : (o : Outcome) (l : PathAnswer) → o ≡ step (state b vs fs) c → l ≡ answer_by o counts places → l ≡ lent_step c counts places vs fs
    unfolding lent_step
    marked_step o l = lent (λ (s : State). step s c) counts places vs fs r loaded b o l is

    pub plain_step : (a : Result Builder BuildError) (w : Result Written BuildError) (ws : List ℕ) (gs : List Float) (l : PathAnswer) → outcome_of a ws gs ≡ step (state b vs fs) c
        → MatchResult a (λ x. IsOkAnd w (λ y. y ≡ plainly_written x)) (λ e. w ≡ Err e) → l ≡ answer_by (conic_outcome_of w ws gs) counts places → l ≡ lent_step c counts places vs fs
    plain_step a w ws gs l e m = marked_step (conic_outcome_of w ws gs) l (no_word a w ws gs m ∙ e)
