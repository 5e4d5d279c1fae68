use mathlib.Core.Path.{ap, ◌∙◌}
use borrow.Author.Tests.{ne_eqb}
use Rattle.std.proofs.Common.{Option, rules}
use Rattle.stream.specs.declared.Builder.{Builder}
use Rattle.stream.specs.Stream.{state}
use Rattle.reader.specs.declared.Rect.{Rect}
use Rattle.reader.specs.Reading.{Reading}
use Rattle.reader.specs.Bounds.{bounds_of}
use Rattle.ffi_path.proofs.Lending.{with_none, with_some}
use Rattle.ffi_reader.specs.Segments.{BoxAnswer, box_answer, box_by, box_of}
use Rattle.ffi_reader.proofs.shackletongue_box.Goals as goal

pub returns-then-rect-ne-RECT_LENGTH : goal.returns-then-rect-ne-RECT_LENGTH
unfolding box_of
returns-then-rect-ne-RECT_LENGTH c = rw (ne_eqb _ _ c.if-rect-ne-RECT_LENGTH.true)

pub returns-then-place-ne-PLACE_LENGTH : goal.returns-then-place-ne-PLACE_LENGTH
unfolding box_of
returns-then-place-ne-PLACE_LENGTH c = rw (c.if-rect-ne-RECT_LENGTH.false, ne_eqb _ _ c.if-place-ne-PLACE_LENGTH.true)

pub returns-in_default : goal.returns-in_default
unfolding box_of
returns-in_default c =
    let a = c.args in
    let f : Builder → BoxAnswer = λ b. box_by (bounds_of (state b a.verbs.now a.points.now)) a.rect.now a.place.now in
    rw (c.if-rect-ne-RECT_LENGTH.false, c.if-place-ne-PLACE_LENGTH.false) (with_none a.counts.now a.places.now f (box_answer 100 a.rect.now a.place.now) _ c.load.ensures (search rules))

pub returns : goal.returns
unfolding box_of
returns c =
    let a = c.args in
    let f : Builder → BoxAnswer = λ b. box_by (bounds_of (state b a.verbs.now a.points.now)) a.rect.now a.place.now in
    rw (c.if-rect-ne-RECT_LENGTH.false, c.if-place-ne-PLACE_LENGTH.false)
    (c.store_box.ensures ∙ ap (λ (x : Reading (Option Rect)). box_by x a.rect.now a.place.now) c.bounds.ensures
    ∙ with_some a.counts.now a.places.now f (box_answer 100 a.rect.now a.place.now) _ c.load.ensures _ c.in-Some.is)
