use mathlib.Core.Path.{◌∙◌}
use Rattle.std.proofs.Common.{rules}
use Rattle.ffi_reader.proofs.Answers.{found, in_box, no_box, unsuited, malformed}
use Rattle.ffi_reader.proofs.store_box.Goals as goal

pub returns-in-Ok-Some : goal.returns-in-Ok-Some
returns-in-Ok-Some c = found c.args.a _ _ _ _ (search rules) (in_box c.in-Ok-Some.r _ _ _ c.store_rect.ensures)

pub returns-in-Ok-None : goal.returns-in-Ok-None
returns-in-Ok-None c = found c.args.a _ _ _ _ (search rules) (no_box _ _)

pub returns-in_default : goal.returns-in_default
returns-in_default c = rw c.in-Err.is (unsuited _ _ _ _ c.in_default.not-Malformed (c.from-number.ensures ∙ c.number.ensures))

pub returns-in-Malformed : goal.returns-in-Malformed
returns-in-Malformed c = rw c.in-Err.is (malformed _ _ _ _ _ c.requires.place c.in-Malformed.is (c.from-number.ensures ∙ c.number.ensures))
