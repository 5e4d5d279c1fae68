use Rattle.std.proofs.Common.{sym, subst}
use lib.Dec.{T}
use lib.Ieee.{Float, binary32, fits}
use lib.Ieee.Positive.{positive}
use Rattle.ieee.specs.Basic.{widen_of}
use Rattle.exponential.proofs.Plains.{positive_number}
use Rattle.exponential.proofs.log_parts_of.Goals as goal

pub wide-requires : goal.wide-requires
wide-requires c = positive_number c.args.b c.requires

pub parts_of-p-requires : goal.parts_of-p-requires
unfolding widen_of
parts_of-p-requires c =
    let s = c.before in
    let w = sym c.wide.ensures in
    record { is_single = subst (λ (x : Float). T (fits binary32 x)) w (subst T (sym s.well_formed.0.1) tt); is_positive = subst (λ (x : Float). T (positive x)) w s.requires }
