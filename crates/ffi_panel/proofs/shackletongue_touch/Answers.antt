-- `ffi_panel::shackletongue_touch` meets its contract. Assumes nothing.
use Rattle.ffi_panel.proofs.Answers.{touch_no_place, touch-taken, touch-nowhere, touch-broken}
use Rattle.ffi_panel.proofs.shackletongue_touch.Goals as goal

pub returns-then-place-ne-TOUCH_PLACE : goal.returns-then-place-ne-TOUCH_PLACE
returns-then-place-ne-TOUCH_PLACE c = touch_no_place _ _ _ c.if-place-ne-TOUCH_PLACE.true

pub returns-in-Ok-Some : goal.returns-in-Ok-Some
returns-in-Ok-Some c = touch-taken _ _ _ _ c.if-place-ne-TOUCH_PLACE.false c.touch.ensures _ (cc)

pub returns-in-Ok-None : goal.returns-in-Ok-None
returns-in-Ok-None c = touch-nowhere _ _ _ _ c.if-place-ne-TOUCH_PLACE.false c.touch.ensures (cc)

pub returns-in-Err : goal.returns-in-Err
returns-in-Err c = rw (c.from.ensures, c.number.ensures) (touch-broken _ _ _ _ c.if-place-ne-TOUCH_PLACE.false c.touch.ensures _ c.in-Err.is)
