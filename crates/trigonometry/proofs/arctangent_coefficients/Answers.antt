use Rattle.series.specs.Coefficients.{terms, alternating}
use Rattle.trigonometry.specs.Arctangent.{arctangent_term}
use Rattle.trigonometry.proofs.arctangent_coefficients.Goals as goal

pub returns : goal.returns
unfolding terms alternating arctangent_term
returns c = rw c.odd_reciprocals-c.ensures
