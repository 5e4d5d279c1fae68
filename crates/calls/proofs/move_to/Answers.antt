use Rattle.calls.proofs.Admission.{admitted, passed_on, refused-is, done-is}
use Rattle.std.proofs.Common.{rules}
use Rattle.calls.specs.Calls.{entries_of, step}
use Rattle.conic_writer.specs.Entries.{plain, elements_of, pieces_in}
use Rattle.stream.proofs.Pushed.{push_all-one}
use Rattle.stream.proofs.Tests.{room-is}
use Rattle.stream.specs.Stream.{State, state, sizes_of}
use Rattle.stream.specs.declared.Element.TheVariants.{Move}
use Rattle.conic.specs.Halving.{word_of}
use lib.ListN.{length}
use native.Mathlib.Omega.{arith}
use mathlib.Core.List.{[], ◌∷◌}
use mathlib.Core.Path.{sym, ◌∙◌}
use Rattle.calls.proofs.move_to.Goals as goal

pub returns-in_err-admit : goal.returns-in_err-admit
unfolding step entries_of elements_of sizes_of
returns-in_err-admit c =
    let a = c.args in
    passed_on _ _ _ _ (search rules) ∙ refused-is (state a.b a.verbs.now a.points.now) (plain (Move a.p) ∷ []) _ (sym (c.in_err-admit.was) ∙ c.admit.ensures)

pub push-requires : goal.push-requires
push-requires c =
    let a = c.args in
    let h = admitted a.b _ (length a.verbs.now) (length a.points.now) _ c.admit.ensures c.in_ok-admit.was in
    omega (arith, room-is a.b (length a.verbs.now) (length a.points.now) _ h.room)

pub returns : goal.returns
unfolding step entries_of elements_of sizes_of pieces_in word_of
returns c =
    let a = c.args in
    let s : State = state a.b a.verbs.now a.points.now in
    done-is s (plain (Move a.p) ∷ []) _ (admitted a.b _ (length a.verbs.now) (length a.points.now) _ c.admit.ensures c.in_ok-admit.was) (c.push.ensures ∙ sym (push_all-one s _))
