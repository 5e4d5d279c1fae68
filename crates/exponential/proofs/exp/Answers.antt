use mathlib.Core.Path.{◌≡◌, refl, sym, ap, ◌∙◌, subst}
use lib.Dec.{T}
use lib.Ieee.{nan, add, sub, mul, div, lt, of_int, of_bits, neg}
use lib.Ieee.Compare.{differs_from_itself}
use Rattle.series.specs.Horner.{horner_of}
use Rattle.series.specs.Coefficients.{H, terms, factorial_reciprocal, reciprocal}
use Rattle.exponential.specs.Exponential.{exp_of, floor_of}
use Rattle.ieee.proofs.Specials.{nan64_is}
use Rattle.exponential.proofs.exp.Goals as goal

-- a NaN goes through every step
exp_nan : exp_of nan ≡ nan
unfolding exp_of H horner_of terms factorial_reciprocal reciprocal add sub mul div lt neg of_int of_bits floor_of
exp_nan = refl

pub returns-then-t : goal.returns-then-t
returns-then-t c = nan64_is ∙ sym (ap exp_of (differs_from_itself c.args.t (subst T (sym c.if-t.true) tt)) ∙ exp_nan)
