use mathlib.Core.Path.{sym, ◌∙◌}
use Prim.Native.Nat.{◌≤◌}
use native.Mathlib.Omega.{arith}
use borrow.Author.Tests.{ne_eqb}
use lib.ListN.{length}
use Rattle.std.proofs.Common.{rules}
use Rattle.stream.specs.declared.Builder.{Builder}
use Rattle.stream.specs.Stream.{state}
use Rattle.reader.specs.Reading.{floats_at, read_at}
use Rattle.ffi_path.proofs.Lending.{with_none, with_some}
use Rattle.ffi_reader.proofs.Answers.{few-floats, stored_reading}
use Rattle.ffi_reader.specs.Segments.{ReadAnswer, read_answer, cursor_at, read_by, read_of}
use Rattle.ffi_reader.proofs.shackletongue_read.Goals as goal

pub returns-then-cursor-ne-CURSOR_LENGTH : goal.returns-then-cursor-ne-CURSOR_LENGTH
unfolding read_of
returns-then-cursor-ne-CURSOR_LENGTH c = rw (ne_eqb _ _ c.if-cursor-ne-CURSOR_LENGTH.true)

pub returns-then-segment-ne-SEGMENT_LENGTH : goal.returns-then-segment-ne-SEGMENT_LENGTH
unfolding read_of
returns-then-segment-ne-SEGMENT_LENGTH c = rw (c.if-cursor-ne-CURSOR_LENGTH.false, ne_eqb _ _ c.if-segment-ne-SEGMENT_LENGTH.true)

pub returns-in_default : goal.returns-in_default
unfolding read_of
returns-in_default c =
    let a = c.args in
    let f : Builder → ReadAnswer = λ b. read_by (read_at (state b a.verbs.now a.points.now) (cursor_at a.cursor.now)) a.cursor.now a.segment.now in
    rw (c.if-cursor-ne-CURSOR_LENGTH.false, c.if-segment-ne-SEGMENT_LENGTH.false) (with_none a.counts.now a.places.now f (read_answer 100 a.cursor.now a.segment.now) _ c.load.ensures (search rules))

pub store_part-requires : goal.store_part-requires
unfolding floats_at
store_part-requires c =
    let s = state c.in-Some.b c.args.verbs.now c.args.points.now in
    let n : length c.read_both-reading.result.1.now ≤ 6 = rw c.read_both-reading.ensures.floats (few-floats (read_at s c.cursor_at-at.result)) in
    omega (arith, n, c.if-segment-ne-SEGMENT_LENGTH.false)

pub returns : goal.returns
unfolding read_of
returns c =
    let a = c.args in
    let s = state c.in-Some.b a.verbs.now a.points.now in
    let f : Builder → ReadAnswer = λ b. read_by (read_at (state b a.verbs.now a.points.now) (cursor_at a.cursor.now)) a.cursor.now a.segment.now in
    rw (c.if-cursor-ne-CURSOR_LENGTH.false, c.if-segment-ne-SEGMENT_LENGTH.false)
    (stored_reading s c.cursor_at-at.result (cursor_at a.cursor.now) _ _ _ _ a.segment.now _ _ (sym c.cursor_at-at.ensures) c.read_both-reading.ensures.floats c.store_part.ensures c.read_both-reading.ensures.reading c.store_reading.ensures
    ∙ with_some a.counts.now a.places.now f (read_answer 100 a.cursor.now a.segment.now) _ c.load.ensures _ c.in-Some.is)
