use Rattle.std.proofs.Common.{◌≡◌, ◌+◌, true, false, rules, tests, pos, ◌∙◌, ap}
use Rattle.std.proofs.lemmas.Iterator.{first_from_Range}
use Rattle.std.specs.Option.{unwrap_or}
use lib.Ieee.{binary32, of_int, le}
use Rattle.octant.proofs.Rows.{first_left}
use Rattle.octant.proofs.left_row.Goals as goal

pub returns : goal.returns
returns c =
    c.unwrap_or.ensures
    ∙ ap (unwrap_or c.find.result) c.from-end.ensures
    ∙ first_left c.find.result c.args.steps c.args.last c.ranges.last.fits
    (rw c.from-end.ensures at (first_from_Range _ _ _ c.find.result (λ i. le (of_int binary32 (pos (i + 1))) c.args.steps ≡ false) (λ k. le (of_int binary32 (pos (k + 1))) c.args.steps ≡ true) c.find.ensures.ran (λ x q k. search (rules, tests)) (λ x q k. (search rules, search (rules, tests)))))
