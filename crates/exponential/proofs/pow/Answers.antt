-- Each return by the tests on the way to it. Assumes nothing.
use mathlib.Core.Path.{◌≡◌, sym, ◌∙◌}
use mathlib.Core.Bool.{false}
use Rattle.exponential.proofs.Rules.{above_zero}
use lib.Dec.{T}
use lib.Ieee.{Float, ne}
use lib.Ieee.Positive.{positive}
use native.Mathlib.Omega.{arith}
use Rattle.lanes.proofs.Places.{All-one}
use Rattle.exponential.proofs.pow.Goals as goal

pub main_powers-requires : goal.main_powers-requires
main_powers-requires c =
    let above = above_zero c.args.base c.if-base.false c.if-base-2.false c.if-base-4.false (sym c.is_infinite.ensures.value ∙ c.if-is_infinite.false) in
    (omega arith, (omega arith, (All-one (λ (x : Float). T (positive x)) c.args.base above, All-one (λ (x : Float). ne x x ≡ false) c.args.exponent c.if-exponent.false)))
