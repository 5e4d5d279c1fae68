-- `ffi_panel::shackletongue_put_record` meets its contract. Assumes nothing.
use Rattle.std.proofs.Common.{sym, ◌∙◌, Some, None}
use Rattle.ffi_panel.specs.Asking.{put_left}
use Rattle.ffi_panel.proofs.Answers.{put_no_place, put_no_floats, put_unknown, put_known}
use Rattle.ffi_panel.proofs.shackletongue_put_record.Goals as goal

pub returns-then-place-ne-RECORD_PLACE : goal.returns-then-place-ne-RECORD_PLACE
returns-then-place-ne-RECORD_PLACE c = put_no_place _ _ _ c.if-place-ne-RECORD_PLACE.true

pub returns-then-floats-ne-RECORD_FLOATS : goal.returns-then-floats-ne-RECORD_FLOATS
returns-then-floats-ne-RECORD_FLOATS c = put_no_floats _ _ _ c.if-place-ne-RECORD_PLACE.false c.if-floats-ne-RECORD_FLOATS.true

pub returns-in_default : goal.returns-in_default
returns-in_default c = rw c.from.ensures (put_unknown _ _ _ c.if-place-ne-RECORD_PLACE.false c.if-floats-ne-RECORD_FLOATS.false (sym c.in_default.is ∙ c.kind_in.ensures))

pub returns-in-Some-put_record : goal.returns-in-Some-put_record
unfolding put_left
returns-in-Some-put_record c =
    let p = c.put_record.ensures in
    put_known _ _ _ c.if-place-ne-RECORD_PLACE.false c.if-floats-ne-RECORD_FLOATS.false _ (sym c.in-Some.is ∙ c.kind_in.ensures) _ c.load_record-record.ensures (Some c.in-Some-put_record.end) _ (sym c.in-Some-put_record.is ∙ p.next) p.bytes

pub returns-in-None : goal.returns-in-None
unfolding put_left
returns-in-None c =
    let p = c.put_record.ensures in
    put_known _ _ _ c.if-place-ne-RECORD_PLACE.false c.if-floats-ne-RECORD_FLOATS.false _ (sym c.in-Some.is ∙ c.kind_in.ensures) _ c.load_record-record.ensures None _ (sym c.in-None.is ∙ p.next) p.bytes
