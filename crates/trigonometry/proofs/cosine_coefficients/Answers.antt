use Rattle.series.specs.Coefficients.{terms, alternating}
use Rattle.trigonometry.specs.Sine.{cosine_term}
use Rattle.trigonometry.proofs.cosine_coefficients.Goals as goal

pub returns : goal.returns
unfolding terms alternating cosine_term
returns c = rw c.factorial_reciprocals-f.ensures
