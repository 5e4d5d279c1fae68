use Rattle.std.proofs.Common.{rules, sym, ◌∙◌}
use Rattle.std.proofs.lemmas.List.Sums.{AllPass-from_list_all}
use Rattle.ieee.specs.Narrow.{regular}
use Rattle.lanes.proofs.narrow.Goals as goal

pub each-requires : goal.each-requires
each-requires g c = (search rules, (search rules, λ k d l. AllPass-from_list_all regular c.args.x (sym c.all_regular.ensures ∙ c.if-all_regular.true) k d l))
