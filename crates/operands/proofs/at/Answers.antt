-- `operands::at` meets its contract. Assumes nothing.
use Rattle.std.proofs.Common.{rules, lit<}
use Rattle.std.specs.Float.{binary32}
use Rattle.text.proofs.Patterns.{nan-above}
use Rattle.operands.proofs.at.Goals as goal

pub returns : goal.returns
returns c = let e = nan-above binary32 2143289344 (lit< tt) in search rules
