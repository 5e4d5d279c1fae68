use Rattle.std.proofs.Common.{Option}
use Rattle.reader.proofs.Parts.{include_is}
use Rattle.reader.proofs.Refusals.{no_item}
use Rattle.reader.proofs.Parts.{next_is}
use Rattle.reader.proofs.Folds.{fold_turn, fold-past, fold-refused, next_verb, refusal_is}
use Rattle.reader.proofs.Reader.{read-bad}
use Rattle.reader.specs.Bounds.{include_element, bounds_of}
use Rattle.reader.specs.Reading.{ok, refused, item_of, cursor, read_at, read_from, fold_read}
use Rattle.reader.specs.declared.Rect.{Rect}
use Rattle.reader.specs.declared.Cursor.{Cursor}
use Rattle.stream.specs.Stream.{State, state}
use native.Mathlib.Omega.{arith}
use mathlib.Core.Path.{◌≡◌, refl, sym, ap, ap₂, ◌∙◌}
use Rattle.reader.proofs.bounds.Goals as goal
use Rattle.reader.proofs.bounds.Goals.{After-include_segment-seen}

-- the item that a turn reads
read-item : (c : After-include_segment-seen)
    → read_at (state c.args.b c.args.verbs.now c.args.points.now) c.loop-c.c
    ≡ ok (item_of c.in-Ok.segment c.in-Ok.next)
read-item c = sym c.in-Ok.ensures

pub returns-then-bad_record : goal.returns-then-bad_record
unfolding bounds_of
returns-then-bad_record c =
    let a = c.args in
    let s : State = state a.b a.verbs.now a.points.now in
    sym (fold-refused include_element _ s (cursor 0 0) _ (sym (read-bad s (cursor 0 0) (sym c.bad_record.ensures ∙ c.if-bad_record.true))))

pub loop-c-init : goal.loop-c-init
unfolding bounds_of
loop-c-init c = refl

pub returns-in_default : goal.returns-in_default
returns-in_default c =
    let a = c.args in
    let s : State = state a.b a.verbs.now a.points.now in
    let r = no_item c.read.result c.in_default.not-Ok in
    let e : read_at s c.loop-c.c ≡ refused r.refusal = sym c.read.ensures ∙ r.is in
    ap refused (sym (refusal_is s c.loop-c.c _ e (sym c.bad_record.ensures ∙ c.if-bad_record.false))) ∙ sym (fold-refused include_element c.loop-c.seen s c.loop-c.c _ e) ∙ c.loop-c.invariant

pub loop-c-smaller : goal.loop-c-smaller
loop-c-smaller c =
    omega (arith, c.loop-c-test.true, next_verb _ c.loop-c.c _ (read-item c) c.loop-c-test.true, ap (λ (d : Cursor). d.verb) (next_is c.in-Ok.segment c.in-Ok.next))

pub loop-c-preserved : goal.loop-c-preserved
loop-c-preserved c =
    let a = c.args in
    let s : State = state a.b a.verbs.now a.points.now in
    ap₂ (λ (x : Option Rect) (d : Cursor). fold_read include_element x (read_from s d)) (c.include_segment-seen.ensures ∙ include_is c.loop-c.seen c.in-Ok.segment c.in-Ok.next) (sym (next_is c.in-Ok.segment c.in-Ok.next))
    ∙ sym (fold_turn include_element c.loop-c.seen s c.loop-c.c _ (read-item c) c.loop-c-test.true) ∙ c.loop-c.invariant

pub returns : goal.returns
returns c =
    let a = c.args in
    let s : State = state a.b a.verbs.now a.points.now in
    sym (fold-past include_element c.loop-c.seen s c.loop-c.c (sym c.bad_record.ensures ∙ c.if-bad_record.false) c.loop-c-test.false) ∙ c.loop-c.invariant
