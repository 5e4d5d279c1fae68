use Rattle.reader.proofs.Parts.{item-is}
use Rattle.reader.proofs.Reader.{read-bad, read_past, read-high, read_short, read_found, byte_at}
use Rattle.reader.specs.Reading.{ok, item, cursor, item_of, element_at}
use Rattle.reader.specs.declared.Segment.{Segment}
use Rattle.stream.proofs.Pushed.{verb_byte, byte_few, verb_over}
use Rattle.stream.proofs.Tests.{good_record}
use Rattle.stream.specs.Stream.{State, state, point_count}
use lib.ListN.{length}
use native.Mathlib.Omega.{arith}
use Prim.Native.Nat.{ℕ, ◌+◌}
use mathlib.Core.Path.{sym, ap, ap₂, ◌∙◌}
use Rattle.reader.proofs.read.Goals as goal

pub returns-then-bad_record : goal.returns-then-bad_record
returns-then-bad_record c =
    let a = c.args in
    read-bad (state a.b a.verbs.now a.points.now) a.c (sym c.bad_record.ensures ∙ c.if-bad_record.true)

pub returns-then-b-at : goal.returns-then-b-at
returns-then-b-at c =
    let a = c.args in
    read_past (state a.b a.verbs.now a.points.now) a.c (sym c.bad_record.ensures ∙ c.if-bad_record.false) c.if-b-at.true

pub bounds-verbs-at : goal.bounds-verbs-at
bounds-verbs-at c =
    let a = c.args in
    omega (arith, c.if-b-at.false, good_record a.b (length a.verbs.now) (length a.points.now) (sym c.bad_record.ensures ∙ c.if-bad_record.false))

pub returns-in_default : goal.returns-in_default
returns-in_default c =
    let a = c.args in
    read-high (state a.b a.verbs.now a.points.now) a.c (sym c.bad_record.ensures ∙ c.if-bad_record.false) c.if-b-at.false (verb_over _ _ c.try_from.ensures c.in_default.not-Ok)

pub returns-then-saturating_sub-k : goal.returns-then-saturating_sub-k
returns-then-saturating_sub-k c =
    let a = c.args in
    let s : State = state a.b a.verbs.now a.points.now in
    let e = verb_byte (byte_at s a.c) c.in-Ok.verb _ c.try_from.ensures c.in-Ok.is in
    let l = rw (c.saturating_sub.ensures, c.point_count-k.ensures, e) at c.if-saturating_sub-k.true in
    read_short s a.c (sym c.bad_record.ensures ∙ c.if-bad_record.false) c.if-b-at.false (omega (arith, e, byte_few c.in-Ok.verb)) l

pub segment_at-requires : goal.segment_at-requires
segment_at-requires c =
    let a = c.args in
    omega (arith, c.saturating_sub.ensures, c.point_count-k.ensures, c.if-saturating_sub-k.false, good_record a.b (length a.verbs.now) (length a.points.now) (sym c.bad_record.ensures ∙ c.if-bad_record.false))

pub returns : goal.returns
returns c =
    let a = c.args in
    let s : State = state a.b a.verbs.now a.points.now in
    let e = verb_byte (byte_at s a.c) c.in-Ok.verb _ c.try_from.ensures c.in-Ok.is in
    let l = rw (c.saturating_sub.ensures, c.point_count-k.ensures, e) at c.if-saturating_sub-k.false in
    ap₂ (λ (x : Segment) (k : ℕ). ok (item_of x (cursor (a.c.verb + 1) (a.c.point + k)))) c.segment_at.ensures c.point_count-k.ensures
    ∙ ap ok (item-is _ _)
    ∙ ap (λ (v : ℕ). ok (item (element_at v a.points.now a.c.point) (cursor (a.c.verb + 1) (a.c.point + point_count v)))) e
    ∙ read_found s a.c (sym c.bad_record.ensures ∙ c.if-bad_record.false) c.if-b-at.false (omega (arith, e, byte_few c.in-Ok.verb)) l
