use Rattle.outline_need.proofs.Passing.{passes-conic}
use Rattle.outline_need.proofs.conic_need.Goals as goal

pub returns : goal.returns
returns c = let a = c.args in passes-conic a.pen a.arc.ctrl a.arc.to a.arc.weight _ c.need.ensures
