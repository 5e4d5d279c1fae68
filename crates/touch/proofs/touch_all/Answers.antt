-- `touch::touch_all` meets its contract.
use Rattle.std.proofs.Common.{◌++◌, drop, ap, ap₂, ◌∙◌, ℕ, rules}
use Rattle.panel_file.specs.Panel.{done}
use Rattle.panel_file.specs.File.{records, new_answer}
use Rattle.touch.specs.Touch.{results_left, count_answer, places_of, results_left_of, touch_all_of}
use Rattle.touch.proofs.touch_all.Goals as goal

pub returns-in_err-file : goal.returns-in_err-file
unfolding touch_all_of results_left_of count_answer new_answer
returns-in_err-file c = let e = c.in_err-file.ensures in rw (← e) (search rules)

pub returns : goal.returns
unfolding touch_all_of results_left_of count_answer new_answer
returns c =
    let e = c.in_ok-file.ensures in
    let n = c.places.ensures.count in
    rw (← e) (ap₂ results_left (ap done n) (c.places.ensures.results_after ∙ ap (λ (k : ℕ). places_of (records c.in_ok-file.file) ++ drop k c.args.results.now) n))
