-- Room for the largest need of a conic is room for any conic.
use mathlib.Core.Path.{◌≡◌, refl, sym, ◌∙◌}
use mathlib.Core.List.{◌++◌}
use mathlib.Core.Bool.{Bool, true, false}
use Prim.Native.Nat.{ℕ, ◌+◌, ◌*◌, ◌/◌, ◌≤◌}
use native.Mathlib.Omega.{arith}
use borrow.Author.Tests.{leb-true, le-leb}
use lib.ListN.{length}
use lib.Dec.{leb}
use Rattle.conic.specs.declared.Lowered.{Lowered}
use Rattle.conic.specs.declared.Lowered.TheVariants.{Line, Curve}
use Rattle.conic.specs.Halving.{pieces_of}
use Rattle.conic.proofs.Whole.{halve-few}
use Rattle.std.specs.Prelude.{⊤, MatchResult}
use Rattle.std.proofs.Common.{Result, Ok, Err}
use Rattle.stream.specs.declared.Builder.{Builder}
use Rattle.stream.specs.declared.Need.{Need}
use Rattle.stream.specs.Stream.{has_room, need_of}
use Rattle.stream.proofs.Tests.{and_left, and_right}
use Rattle.conic_writer.specs.Entries.{elements_of, lowered_of}
use Rattle.conic_writer.proofs.Entries.{lowered_line, lowered_curve}
use Rattle.calls.specs.declared.BuildError.{BuildError}
use Rattle.calls.specs.Calls.{opening, opened_need, admit_of}
use Rattle.calls.proofs.Opening.{opened-need}
use Rattle.calls.proofs.Admission.{admitted}

-- one need is covered by another
pub record Covered (n m : Need) : Type 0 where
  pub verbs : n.verbs ≤ m.verbs
  pub points : n.points ≤ m.points

opened_covered : (e : Bool) (v p w q : ℕ) → v ≤ w → p ≤ q → Covered (opened_need e v p) (opened_need e w q)
opened_covered true v p w q h k = record { verbs = omega arith; points = omega arith }
opened_covered false v p w q h k = record { verbs = h; points = k }

covered_by : (n m k : Need) → n ≡ m → Covered n k → Covered m k
covered_by n m k e h = rw (← e) h

pub largest : (e : Bool) (l : Lowered) → Covered (need_of (elements_of (opening e ++ lowered_of l))) (opened_need e 64 128)
largest e (Line p) =
    let h = lowered_line (Line p) p refl in
    covered_by _ _ _ (opened-need e (lowered_of (Line p)) 1 1 (sym h.many) (sym h.size)) (opened_covered e 1 1 64 128 (omega arith) (omega arith))
largest e (Curve c) =
    let h = lowered_curve (Curve c) c refl in
    let few : length (pieces_of c) ≤ 64 = halve-few 6 c 0 in
    covered_by _ _ _ (opened-need e (lowered_of (Curve c)) (length (pieces_of c)) (2 * length (pieces_of c)) (sym h.many) (sym h.size)) (opened_covered e (length (pieces_of c)) (2 * length (pieces_of c)) 64 128 few (omega arith))

room_covered : (b : Builder) (verb_room float_room : ℕ) (n m : Need) → Covered n m → has_room b verb_room float_room m ≡ true → has_room b verb_room float_room n ≡ true
unfolding has_room
room_covered b verb_room float_room n m c e =
    let v = leb-true (b.verbs + m.verbs) verb_room (and_left _ _ e) in
    let p = leb-true (b.points + m.points) (float_room / 2) (and_right (leb (b.verbs + m.verbs) verb_room) _ e) in
    let nv : b.verbs + n.verbs ≤ verb_room = omega (arith, c.verbs) in
    let np : b.points + n.points ≤ float_room / 2 = omega (arith, c.points) in
    rw (le-leb (b.verbs + n.verbs) verb_room nv, le-leb (b.points + n.points) (float_room / 2) np)

-- what is admitted with a need is admitted with any that it covers
pub admitted_too : (b : Builder) (x : ⊤) (verb_room float_room : ℕ) (n m : Need) (r : Result ⊤ BuildError) → Covered n m → r ≡ admit_of b verb_room float_room m → r ≡ Ok x → r ≡ admit_of b verb_room float_room n
unfolding admit_of
admitted_too b x verb_room float_room n m r c e d =
    let a = admitted b x verb_room float_room m e d in
    let k = room_covered b verb_room float_room n m c a.room in
    e ∙ rw (a.good, a.room, k)

-- a need is asked for where a larger one is not admitted
pub admitted_or : (b : Builder) (verb_room float_room : ℕ) (n m : Need) (a r : Result ⊤ BuildError) (Q : BuildError → Type 0) → Covered n m → a ≡ admit_of b verb_room float_room m → MatchResult a (λ x. r ≡ Ok x) Q → ((e : BuildError) → Q e → r ≡ admit_of b verb_room float_room n) → r ≡ admit_of b verb_room float_room n
admitted_or b verb_room float_room n m (Ok x) r Q c f h k = h ∙ admitted_too b x verb_room float_room n m _ c f refl
admitted_or b verb_room float_room n m (Err e) r Q c f h k = k e h
