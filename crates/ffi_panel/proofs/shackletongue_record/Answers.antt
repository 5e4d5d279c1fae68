-- `ffi_panel::shackletongue_record` meets its contract. Assumes nothing.
use Rattle.std.proofs.Common.{ap, ◌∙◌, Ok}
use Rattle.panel_file.specs.Panel.{kind_number}
use Rattle.ffi_panel.proofs.Answers.{record_no_place, record_no_floats, record_read, record_end, record_broken}
use Rattle.ffi_panel.proofs.shackletongue_record.Goals as goal

pub returns-then-place-ne-RECORD_PLACE : goal.returns-then-place-ne-RECORD_PLACE
returns-then-place-ne-RECORD_PLACE c = record_no_place _ _ _ c.if-place-ne-RECORD_PLACE.true

pub returns-then-floats-ne-RECORD_FLOATS : goal.returns-then-floats-ne-RECORD_FLOATS
returns-then-floats-ne-RECORD_FLOATS c = record_no_floats _ _ _ c.if-place-ne-RECORD_PLACE.false c.if-floats-ne-RECORD_FLOATS.true

pub returns-in-Ok-Some : goal.returns-in-Ok-Some
returns-in-Ok-Some c = record_read _ _ _ _ c.if-place-ne-RECORD_PLACE.false c.if-floats-ne-RECORD_FLOATS.false c.record_at.ensures _ _ _ _ (c.in-Ok-Some.is ∙ ap Ok c.in-Ok-Some.field-0-is) (c.from.ensures ∙ c.number.ensures ∙ ap kind_number c.kind.ensures) c.store_record.ensures

pub returns-in-Ok-None : goal.returns-in-Ok-None
returns-in-Ok-None c = record_end _ _ _ _ c.if-place-ne-RECORD_PLACE.false c.if-floats-ne-RECORD_FLOATS.false c.record_at.ensures (cc)

pub returns-in-Err : goal.returns-in-Err
returns-in-Err c = rw (c.from-in-Err.ensures, c.number-in-Err.ensures) (record_broken _ _ _ _ c.if-place-ne-RECORD_PLACE.false c.if-floats-ne-RECORD_FLOATS.false c.record_at.ensures _ c.in-Err.is)
