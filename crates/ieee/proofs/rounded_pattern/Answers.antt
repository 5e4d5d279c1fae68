-- `ieee::rounded_pattern` meets its contract (`Narrowing.pattern_rounded`). Assumes nothing.
use Rattle.std.proofs.Common.{arith}
use Rattle.ieee.proofs.Narrowing.{pattern_rounded}
use Rattle.ieee.proofs.rounded_pattern.Goals as goal

pub returns : goal.returns
returns c = let lo = c.requires.at_least in pattern_rounded c.args.a (omega arith)
