-- Each entry is the rounded quotient: computed over the whole list. Assumes nothing.
use mathlib.Core.Path.{refl}
use lib.Ieee.{div, of_int, of_bits}
use Rattle.series.specs.Coefficients.{terms, factorial_reciprocal, reciprocal}
use Rattle.series.proofs.factorial_reciprocals.Goals as goal

pub returns : goal.returns
unfolding terms factorial_reciprocal reciprocal div of_int of_bits
returns c = refl
