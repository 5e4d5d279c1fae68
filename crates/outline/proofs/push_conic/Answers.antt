use mathlib.Core.Path.{sym, ap, subst, ◌∙◌}
use Rattle.conic.specs.declared.Lowered.{Lowered}
use Rattle.stream.specs.Stream.{State, state, push_all, Fits}
use Rattle.conic_writer.specs.Entries.{elements_of, lowered_of}
use Rattle.calls.specs.Calls.{entries_of}
use Rattle.outline_corners.specs.Calls.{conic_call}
use Rattle.outline.proofs.Pushed.{room-one, calls_one}
use Rattle.outline.proofs.push_conic.Goals as goal

pub push_unmarked-requires : goal.push_unmarked-requires
unfolding entries_of
push_unmarked-requires c =
    let a = c.args in
    let s : State = state a.b a.verbs.now a.points.now in
    subst (λ (l : Lowered). Fits a.b a.verbs.now a.points.now (elements_of (lowered_of l))) (sym c.lower-l.ensures) (room-one s (conic_call a.arc) c.requires)

pub returns : goal.returns
unfolding entries_of
returns c =
    let a = c.args in
    let s : State = state a.b a.verbs.now a.points.now in
    calls_one s (conic_call a.arc) _ (c.push_unmarked.ensures ∙ ap (λ (l : Lowered). push_all s (elements_of (lowered_of l))) c.lower-l.ensures)
