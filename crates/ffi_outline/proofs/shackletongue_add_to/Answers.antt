use mathlib.Core.Path.{ap, ◌∙◌}
use Rattle.std.proofs.Common.{rules}
use Rattle.calls.proofs.Opened.{no_word}
use Rattle.stream.specs.Stream.{State, state}
use Rattle.shape.specs.declared.RoundSuperellipse.{RoundSuperellipse}
use Rattle.outline.specs.declared.BuildingCall.TheVariants.{AddTo}
use Rattle.outline.specs.Step.{step}
use Rattle.ffi_shape.specs.Layout.{shape_at}
use Rattle.ffi_path.proofs.Lending.{record_is, lent, wrong_lengths}
use Rattle.ffi_outline.proofs.Answers.{no_shape, drawn}
use Rattle.ffi_outline.proofs.shackletongue_add_to.Goals as goal

pub returns-in_default : goal.returns-in_default
returns-in_default c =
    let a = c.args in
    no_shape a.shape.now a.counts.now a.places.now a.verbs.now a.points.now c.in_default.ensures.cases

pub returns-in_default-load : goal.returns-in_default-load
returns-in_default-load c =
    let a = c.args in
    drawn a.shape.now a.counts.now a.places.now a.verbs.now a.points.now _ c.in-Some.ensures.cases.long (wrong_lengths (λ (s : State). step s (AddTo (shape_at a.shape.now))) a.counts.now a.places.now a.verbs.now a.points.now _ c.load.ensures (search rules))

pub store_answer-requires : goal.store_answer-requires
store_answer-requires c =
    let k = record_is _ _ _ _ c.load.ensures c.in-Some-load.is in
    (k.counted, k.placed)

pub returns : goal.returns
returns c =
    let a = c.args in
    let e = c.in-Some.ensures.cases in
    let shape = rw e.same at c.shape_at.ensures in
    let o = no_word c.add_to-a.result _ _ _ (search rules) ∙ c.add_to-a.ensures ∙ ap (λ (x : RoundSuperellipse). step (state c.in-Some-load.b a.verbs.now a.points.now) (AddTo x)) shape in
    drawn a.shape.now a.counts.now a.places.now a.verbs.now a.points.now _ e.long (lent (λ (s : State). step s (AddTo (shape_at a.shape.now))) a.counts.now a.places.now a.verbs.now a.points.now _ c.load.ensures _ _ _ c.in-Some-load.is o (c.store_answer.ensures _ _))
