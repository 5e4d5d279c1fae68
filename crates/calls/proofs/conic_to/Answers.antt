use mathlib.Core.Path.{sym, ap, ◌∙◌}
use mathlib.Core.List.{[], ◌∷◌, ◌++◌}
use Rattle.conic.specs.declared.Conic.{Conic}
use Rattle.conic.specs.declared.Lowered.{Lowered}
use Rattle.conic.specs.declared.Lowered.TheVariants as lowered
use Rattle.conic.proofs.Vectors.{of_pairs}
use Rattle.stream.specs.declared.Element.TheVariants.{Line, Quad}
use Rattle.stream.specs.Stream.{State, state, is_empty}
use Rattle.conic_writer.specs.Entries.{plain, lowered_of}
use Rattle.conic_writer.proofs.Entries.{lowered_line, lowered_flat}
use Rattle.calls.specs.Calls.{opening, attempt}
use Rattle.calls.proofs.Opened.{one_marked, conic-step}
use Rattle.calls.proofs.conic_to.Goals as goal

pub returns-in-Line : goal.returns-in-Line
returns-in-Line c =
    let a = c.args in
    let s : State = state a.b a.verbs.now a.points.now in
    let h = lowered_line c.lower.result _ c.in-Line.is in
    one_marked s (Line c.in-Line.p) (lowered_of c.lower.result) _ _ _ _ _ h.elements h.word c.add.ensures c.with_word.ensures ∙ conic-step s a.ctrl a.to a.weight _ _ c.conic_from.ensures c.lower.ensures

pub returns-then-is_flat : goal.returns-then-is_flat
returns-then-is_flat c =
    let a = c.args in
    let s : State = state a.b a.verbs.now a.points.now in
    let k = c.in-Curve.c in
    let h = lowered_flat c.lower.result k c.in-Curve.is (sym c.is_flat.ensures ∙ c.if-is_flat.true) in
    let e = of_pairs k _ _ c.ends-ends.ensures c.ctrl-ctrl.ensures in
    let one = c.single_to.ensures ∙ ap (λ (k : Conic). attempt s (opening (is_empty a.b) ++ plain (Quad k.ctrl k.to) ∷ [])) e in
    one_marked s (Quad k.ctrl k.to) (lowered_of c.lower.result) _ _ _ _ _ h.elements h.word one c.with_word-then-is_flat.ensures
    ∙ conic-step s a.ctrl a.to a.weight _ _ c.conic_from.ensures c.lower.ensures

pub returns-else-is_flat : goal.returns-else-is_flat
returns-else-is_flat c =
    let a = c.args in
    let s : State = state a.b a.verbs.now a.points.now in
    let k = c.in-Curve.c in
    let e = ap lowered.Curve (of_pairs k _ _ c.ends-ends.ensures c.ctrl-ctrl.ensures) ∙ sym c.in-Curve.is in
    c.split_to.ensures ∙ ap (λ (l : Lowered). attempt s (opening (is_empty a.b) ++ lowered_of l)) e ∙ conic-step s a.ctrl a.to a.weight _ _ c.conic_from.ensures c.lower.ensures
