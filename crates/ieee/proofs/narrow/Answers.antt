-- `ieee::narrow` meets its contract: what its test finds to be in range is no NaN. Assumes nothing.
use Rattle.std.proofs.Common.{arith}
use Rattle.ieee.proofs.Units.{equals_itself}
use Rattle.ieee.proofs.narrow.Goals as goal

pub float_to_bits-size : goal.float_to_bits-size
float_to_bits-size c = equals_itself c.args.x c.if-x.true

pub narrow_by_pattern-requires : goal.narrow_by_pattern-requires
narrow_by_pattern-requires c = record { number = equals_itself c.args.x c.before.if-x.true; at_least = omega arith; below = omega arith }
