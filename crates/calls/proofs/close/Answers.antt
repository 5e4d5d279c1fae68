use Rattle.calls.proofs.Admission.{admitted_for, passed_on, refused-is, done-is}
use Rattle.calls.proofs.Opening.{closing_empty, closing-held}
use Rattle.std.proofs.Common.{rules}
use Rattle.calls.specs.Calls.{closing, entries_of, admit_of, step}
use Rattle.conic_writer.specs.Entries.{plain, elements_of, pieces_in}
use Rattle.stream.proofs.Pushed.{push_all-one}
use Rattle.stream.proofs.Tests.{room-is}
use Rattle.stream.specs.Stream.{State, state, is_empty, sizes_of, push_all}
use Rattle.stream.specs.declared.Element.TheVariants as element
use Rattle.conic.specs.Halving.{word_of}
use lib.ListN.{length}
use native.Mathlib.Omega.{arith}
use mathlib.Core.List.{[], ◌∷◌}
use mathlib.Core.Path.{refl, sym, ap, ◌∙◌}
use Rattle.calls.proofs.close.Goals as goal

pub returns-in_err-admit : goal.returns-in_err-admit
unfolding step entries_of
returns-in_err-admit c =
    let a = c.args in
    passed_on _ _ _ _ (search rules)
    ∙ refused-is (state a.b a.verbs.now a.points.now) (closing (is_empty a.b)) _ (sym (c.in_err-admit.was) ∙ c.admit.ensures ∙ ap (admit_of a.b (length a.verbs.now) (length a.points.now)) c.close_need.ensures)

pub returns-then-b-eq0 : goal.returns-then-b-eq0
unfolding step entries_of elements_of push_all pieces_in word_of
returns-then-b-eq0 c =
    let a = c.args in
    let e = closing_empty a.b.verbs c.if-b-eq0.true in
    rw e (done-is (state a.b a.verbs.now a.points.now) [] _ (admitted_for a.b _ _ _ _ _ [] c.close_need.ensures e c.admit.ensures c.in_ok-admit.was) refl)

pub push-requires : goal.push-requires
unfolding elements_of sizes_of
push-requires c =
    let a = c.args in
    let e = closing-held a.b.verbs c.if-b-eq0.false in
    let h = admitted_for a.b _ (length a.verbs.now) (length a.points.now) _ _ (plain element.Close ∷ []) c.close_need.ensures e c.admit.ensures c.in_ok-admit.was in
    omega (arith, room-is a.b (length a.verbs.now) (length a.points.now) _ h.room)

pub returns : goal.returns
unfolding step entries_of elements_of pieces_in word_of
returns c =
    let a = c.args in
    let s : State = state a.b a.verbs.now a.points.now in
    let e = closing-held a.b.verbs c.if-b-eq0.false in
    rw e (done-is s (plain element.Close ∷ []) _ (admitted_for a.b _ _ _ _ _ (plain element.Close ∷ []) c.close_need.ensures e c.admit.ensures c.in_ok-admit.was) (c.push.ensures ∙ sym (push_all-one s _)))
