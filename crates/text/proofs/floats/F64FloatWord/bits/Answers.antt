-- `text::floats::F64FloatWord::bits` meets its contract. Assumes nothing.
use Rattle.std.proofs.Common.{arith}
use Rattle.std.specs.Float.{binary64}
use Rattle.std.specs.Bool.{passes}
use lib.Ieee.Bits.{to_bits-lt}
use Rattle.text.proofs.floats.F64FloatWord.bits.Goals as goal

pub returns-clause-fits : goal.returns-clause-fits
returns-clause-fits c = omega (arith, to_bits-lt binary64 c.args.self (passes _ c.well_formed.0.1))
