-- `ffi_refusals::shackletongue_refusal_text` meets its contract. Assumes nothing.
use Rattle.std.proofs.Common.{ap, ◌∙◌, Some, None}
use Rattle.ffi_refusals.specs.Texts.{text_left, padded, told}
use Rattle.ffi_refusals.proofs.Numbers.{other_length, told_by}
use Rattle.ffi_refusals.proofs.shackletongue_refusal_text.Goals as goal

pub returns-then-text-ne-ROOM : goal.returns-then-text-ne-ROOM
returns-then-text-ne-ROOM c = other_length _ _ c.if-text-ne-ROOM.true

pub returns-in_default : goal.returns-in_default
unfolding told
returns-in_default c = told_by _ _ None c.if-text-ne-ROOM.false (rw c.in_default.is at c.text_of.ensures.value)

pub returns : goal.returns
unfolding told
returns c =
    let text = rw c.in-Some.is at c.text_of.ensures.value in
    ap (text_left 0) (c.put_text.ensures ∙ ap padded c.as_bytes.ensures.value) ∙ told_by _ _ (Some c.in-Some.words.now) c.if-text-ne-ROOM.false text
