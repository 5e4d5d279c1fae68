use Rattle.worked_examples.proofs.Computed.{computed}
use Rattle.worked_examples.proofs.worked_examples.Goals as goal

pub returns : goal.returns
returns c = computed
