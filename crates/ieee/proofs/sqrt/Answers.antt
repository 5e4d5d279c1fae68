use Rattle.std.proofs.Common.{sym, ◌∙◌, subst, T}
use Rattle.ieee.proofs.SquareRoot.{sqrt-is}
use Rattle.ieee.proofs.sqrt.Goals as goal

pub returns : goal.returns
returns c = c.sqrt.ensures.value ∙ sqrt-is c.args.x (subst T (sym c.well_formed.0.1) tt)
