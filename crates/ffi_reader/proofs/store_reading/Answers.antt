use mathlib.Core.Path.{◌∙◌}
use Rattle.ffi_reader.proofs.Answers.{item-read, unread_as}
use Rattle.ffi_reader.proofs.store_reading.Goals as goal

pub returns-in-Ok : goal.returns-in-Ok
returns-in-Ok c floats = item-read _ _ _ _ c.args.cursor.now _ floats c.in-Ok.is (c.kind_of.ensures _) c.store_cursor.ensures

pub returns-in-Err : goal.returns-in-Err
returns-in-Err c floats = rw c.in-Err.is (unread_as _ _ c.args.cursor.now floats (c.from.ensures ∙ c.number.ensures))
