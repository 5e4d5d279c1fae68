use Rattle.ieee.proofs.Simple.{finite-is}
use Rattle.ieee.proofs.Specials.{inf32_is, minus_inf32_is}
use Rattle.ieee.proofs.is_finite.Goals as goal

pub returns-then-x : goal.returns-then-x
returns-then-x c = rw (← finite-is c.args.x, ← minus_inf32_is, ← inf32_is, c.if-x.true)

pub returns-else-x : goal.returns-else-x
returns-else-x c = rw (← finite-is c.args.x, ← minus_inf32_is, ← inf32_is, c.if-x.false)
