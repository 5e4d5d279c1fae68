use mathlib.Core.Bool.{not}
use mathlib.Core.Path.{sym}
use native.Mathlib.Omega.{arith}
use lib.Dec.{T}
use lib.Ieee.{Float, nan, inf, fin, is_nan}
use lib.Ieee.Positive.{positive}
use Rattle.exponential.proofs.Split.{Numbers, split}
use Rattle.exponential.proofs.parts_of.Goals as goal
use Rattle.exponential.proofs.parts_of.Goals.{Start}

numbers : (c : Start) → Numbers c.args.u
numbers c = split c.args.u c.requires.is_single c.requires.is_positive

no_nan : (u : Float) → T (positive u) → T (not (is_nan u))
unfolding is_nan
no_nan nan p = p
no_nan (inf s) p = tt
no_nan (fin s m e) p = tt

pub overflow_add-bits : goal.overflow_add-bits
overflow_add-bits c = omega (arith, (numbers c).small)

pub returns : goal.returns
returns c = rw c.unbiased.ensures (sym (numbers c.before).ln)

pub float_to_bits-bits : goal.float_to_bits-bits
float_to_bits-bits c = no_nan c.args.u c.requires.is_positive

pub float_from_bits-result : goal.float_from_bits-result
float_from_bits-result c = (numbers c).no_nan

pub unbiased-requires : goal.unbiased-requires
unbiased-requires c = (numbers c).small
