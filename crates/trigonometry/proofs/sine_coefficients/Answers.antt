use Rattle.series.specs.Coefficients.{terms, alternating}
use Rattle.trigonometry.specs.Sine.{sine_term}
use Rattle.trigonometry.proofs.sine_coefficients.Goals as goal

pub returns : goal.returns
unfolding terms alternating sine_term
returns c = rw c.factorial_reciprocals-f.ensures
