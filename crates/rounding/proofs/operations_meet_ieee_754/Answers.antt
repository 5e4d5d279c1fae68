use Rattle.rounding.proofs.Meets.{meets}
use Rattle.rounding.proofs.operations_meet_ieee_754.Goals as goal

pub returns : goal.returns
returns c = meets
