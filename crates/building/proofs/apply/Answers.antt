use mathlib.Core.Path.{sym, ap, ◌∙◌}
use Rattle.std.proofs.Common.{rules}
use Rattle.stream.specs.Stream.{state}
use Rattle.calls.proofs.Opened.{no_word}
use Rattle.outline.specs.Step.{step}
use Rattle.building.proofs.apply.Goals as goal

pub returns-in-MoveTo : goal.returns-in-MoveTo
unfolding step
returns-in-MoveTo c =
    let a = c.args in
    no_word c.move_to.result _ _ _ (search rules) ∙ c.move_to.ensures ∙ ap (step (state a.b a.verbs.now a.points.now)) (sym c.in-MoveTo.is)

pub returns-in-LineTo : goal.returns-in-LineTo
unfolding step
returns-in-LineTo c =
    let a = c.args in
    no_word c.line_to.result _ _ _ (search rules) ∙ c.line_to.ensures ∙ ap (step (state a.b a.verbs.now a.points.now)) (sym c.in-LineTo.is)

pub returns-in-QuadTo : goal.returns-in-QuadTo
unfolding step
returns-in-QuadTo c =
    let a = c.args in
    no_word c.quad_to.result _ _ _ (search rules) ∙ c.quad_to.ensures ∙ ap (step (state a.b a.verbs.now a.points.now)) (sym c.in-QuadTo.is)

pub returns-in-ConicTo : goal.returns-in-ConicTo
unfolding step
returns-in-ConicTo c =
    let a = c.args in
    c.conic_to.ensures ∙ ap (step (state a.b a.verbs.now a.points.now)) (sym c.in-ConicTo.is)

pub returns-in-CubicTo : goal.returns-in-CubicTo
unfolding step
returns-in-CubicTo c =
    let a = c.args in
    no_word c.cubic_to.result _ _ _ (search rules) ∙ c.cubic_to.ensures ∙ ap (step (state a.b a.verbs.now a.points.now)) (sym c.in-CubicTo.is)

pub returns-in-Close : goal.returns-in-Close
unfolding step
returns-in-Close c =
    let a = c.args in
    no_word c.close.result _ _ _ (search rules) ∙ c.close.ensures ∙ ap (step (state a.b a.verbs.now a.points.now)) (sym c.in-Close.is)

pub returns-in-AddTo : goal.returns-in-AddTo
unfolding step
returns-in-AddTo c =
    let a = c.args in
    no_word c.add_to.result _ _ _ (search rules) ∙ c.add_to.ensures ∙ ap (step (state a.b a.verbs.now a.points.now)) (sym c.in-AddTo.is)
