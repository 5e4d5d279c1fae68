-- What admission says of a call.
use mathlib.Core.Path.{◌≡◌, refl, sym, ap, ◌∙◌}
use mathlib.Core.List.{List}
use mathlib.Core.Bool.{Bool, true, false, cond}
use Prim.Native.Nat.{ℕ}
use native.Mathlib.Omega.{arith}
use lib.ListN.{length}
use lib.Ieee.{Float}
use Rattle.std.specs.Prelude.{⊤}
use Rattle.std.proofs.Common.{Result, Ok, Err}
use Rattle.stream.specs.declared.Builder.{Builder}
use Rattle.stream.specs.declared.Need.{Need}
use Rattle.stream.specs.Stream.{State, bad_record, has_room, bad_state, room_for, need_of, push_all}
use Rattle.conic_writer.specs.declared.Written.{Written}
use Rattle.conic_writer.specs.Entries.{Entry, elements_of, joint_word}
use Rattle.calls.specs.declared.BuildError.{BuildError}
use Rattle.calls.specs.declared.BuildError.TheVariants.{BadRecord, NoRoom}
use Rattle.calls.specs.Calls.{outcome, attempt, admit_of, refusal_of, outcome_of, conic_outcome_of}

-- what holds where a need is admitted
pub record Admitted (b : Builder) (verb_room float_room : ℕ) (n : Need) : Type 0 where
  pub good : bad_record b verb_room float_room ≡ false
  pub room : has_room b verb_room float_room n ≡ true

-- an answer by what is asked
abbrev decided : Bool → Bool → Builder → Result ⊤ BuildError
decided p q b = cond p (Err (BadRecord b)) (cond q (Ok tt) (Err (NoRoom b)))

admitted_go : (b : Builder) (x : ⊤) (verb_room float_room : ℕ) (n : Need) (p q : Bool) → bad_record b verb_room float_room ≡ p → has_room b verb_room float_room n ≡ q → decided p q b ≡ Ok x → Admitted b verb_room float_room n
admitted_go b x verb_room float_room n true q ep eq e = let z : ◌≡◌ {A = ℕ} 0 1 = cc in absurd (omega arith)
admitted_go b x verb_room float_room n false true ep eq e = record { good = ep; room = eq }
admitted_go b x verb_room float_room n false false ep eq e = let z : ◌≡◌ {A = ℕ} 0 1 = cc in absurd (omega arith)

pub admitted : (b : Builder) (x : ⊤) (verb_room float_room : ℕ) (n : Need) {r : Result ⊤ BuildError} → r ≡ admit_of b verb_room float_room n → r ≡ Ok x → Admitted b verb_room float_room n
unfolding admit_of
admitted b x verb_room float_room n e d = admitted_go b x verb_room float_room n _ _ refl refl (sym e ∙ d)

module _ (s : State) (es : List Entry) where
  -- a call that was not admitted
  refused_go : (p q : Bool) → bad_state s ≡ p → room_for s (elements_of es) ≡ q → (r : BuildError) → Err r ≡ decided p q s.builder
      → refusal_of r s.verbs s.floats ≡ cond p (outcome 1 0 s) (cond q (outcome 0 (joint_word es) (push_all s (elements_of es))) (outcome 5 0 s))
  refused_go true q ep eq r e = let z : r ≡ BadRecord s.builder = cc in ap (λ (x : BuildError). refusal_of x s.verbs s.floats) z
  refused_go false true ep eq r e = let z : ◌≡◌ {A = ℕ} 0 1 = cc in absurd (omega arith)
  refused_go false false ep eq r e = let z : r ≡ NoRoom s.builder = cc in ap (λ (x : BuildError). refusal_of x s.verbs s.floats) z

  pub refused-is : (r : BuildError) → Err r ≡ admit_of s.builder (length s.verbs) (length s.floats) (need_of (elements_of es)) → refusal_of r s.verbs s.floats ≡ attempt s es
  unfolding admit_of attempt
  refused-is r e = refused_go _ _ refl refl r e

  -- a call that was
  pub done-is : (t : State) → Admitted s.builder (length s.verbs) (length s.floats) (need_of (elements_of es)) → t ≡ push_all s (elements_of es) → outcome 0 (joint_word es) t ≡ attempt s es
  unfolding attempt
  done-is t h e = ap (outcome 0 (joint_word es)) e ∙ rw (h.good, h.room)

-- a refusal that is passed on
pub passed_on : (r : Result Builder BuildError) (e : BuildError) (vs : List ℕ) (fs : List Float) → r ≡ Err e → outcome_of r vs fs ≡ refusal_of e vs fs
passed_on r e vs fs h = ap (λ (x : Result Builder BuildError). outcome_of x vs fs) h

pub conic_passed_on : (r : Result Written BuildError) (e : BuildError) (vs : List ℕ) (fs : List Float) → r ≡ Err e → conic_outcome_of r vs fs ≡ refusal_of e vs fs
conic_passed_on r e vs fs h = ap (λ (x : Result Written BuildError). conic_outcome_of x vs fs) h

-- a need that is that of es
pub admitted_for : (b : Builder) (x : ⊤) (verb_room float_room : ℕ) (n : Need) (es ds : List Entry) {r : Result ⊤ BuildError} → n ≡ need_of (elements_of es) → es ≡ ds → r ≡ admit_of b verb_room float_room n → r ≡ Ok x → Admitted b verb_room float_room (need_of (elements_of ds))
admitted_for b x verb_room float_room n es ds e f a d = admitted b x verb_room float_room _ (a ∙ ap (admit_of b verb_room float_room) (e ∙ ap (λ (l : List Entry). need_of (elements_of l)) f)) d
