use Rattle.std.proofs.Common.{ap, ◌∙◌}
use native.Mathlib.Omega.{arith}
use Rattle.std.specs.List.{list_all}
use Rattle.lanes.proofs.Sizes.{within, all_turned, all_within}
use Rattle.lanes.proofs.all_regular.Goals as goal

pub returns : goal.returns
returns g c = c.all_between_f64.ensures ∙ ap (list_all within) (all_turned c.args.x g.row.N (omega arith)) ∙ all_within c.args.x
