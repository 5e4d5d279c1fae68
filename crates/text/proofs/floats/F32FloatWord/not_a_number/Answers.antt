-- `text::floats::F32FloatWord::not_a_number` meets its contract. Assumes nothing.
use Rattle.std.proofs.Common.{lit<}
use Rattle.std.specs.Float.{binary32}
use Rattle.text.proofs.Patterns.{nan-above}
use Rattle.text.proofs.floats.F32FloatWord.not_a_number.Goals as goal

pub returns : goal.returns
returns c = nan-above binary32 _ (lit< tt)
