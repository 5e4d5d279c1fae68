-- `ffi_panel::shackletongue_touch_all` meets its contract.
use Rattle.ffi_panel.proofs.Answers.{all_no_results, all_no_place, all_done, all_broken}
use Rattle.ffi_panel.proofs.shackletongue_touch_all.Goals as goal

pub returns-in_default : goal.returns-in_default
returns-in_default c = all_no_results c.args.file.now c.args.results.now c.args.place.now c.in_default.ensures.cases

pub returns-then-place-ne-TOUCH_PLACE : goal.returns-then-place-ne-TOUCH_PLACE
returns-then-place-ne-TOUCH_PLACE c =
    let e = c.in-Some.ensures.cases in
    rw e.same (all_no_place c.args.file.now c.args.results.now c.args.place.now e.long c.if-place-ne-TOUCH_PLACE.true)

pub returns-in-Ok : goal.returns-in-Ok
returns-in-Ok c =
    let e = c.in-Some.ensures.cases in
    all_done c.args.file.now c.args.results.now c.args.place.now _ _ (rw e.same at c.touch_all.ensures) e.long c.if-place-ne-TOUCH_PLACE.false _ c.in-Ok.is

pub returns-in-Err : goal.returns-in-Err
returns-in-Err c =
    let e = c.in-Some.ensures.cases in
    rw (c.from.ensures, c.number.ensures) (all_broken c.args.file.now c.args.results.now c.args.place.now _ _ (rw e.same at c.touch_all.ensures) e.long c.if-place-ne-TOUCH_PLACE.false _ c.in-Err.is)
