-- `text::floats::F64FloatWord::not_a_number` meets its contract. Assumes nothing.
use Rattle.std.proofs.Common.{lit<}
use Rattle.std.specs.Float.{binary64}
use Rattle.text.proofs.Patterns.{nan-above}
use Rattle.text.proofs.floats.F64FloatWord.not_a_number.Goals as goal

pub returns : goal.returns
returns c = nan-above binary64 _ (lit< tt)
