use Rattle.conic.proofs.Weight.{within}
use Rattle.conic.proofs.is_near_one.Goals as goal

pub returns : goal.returns
returns c = within _
