use Rattle.exponential.specs.Plain.{moderate}
use Rattle.exponential.proofs.all_moderate.Goals as goal

pub returns : goal.returns
unfolding moderate
returns g c = c.all_between_f64.ensures
