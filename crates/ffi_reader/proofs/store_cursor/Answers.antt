use Rattle.ffi_path.proofs.Lending.{filled}
use Rattle.ffi_reader.specs.Segments.{cursor_numbers}
use Rattle.ffi_reader.proofs.store_cursor.Goals as goal

pub returns : goal.returns
unfolding cursor_numbers
returns c = filled c.args.cursor.now (cursor_numbers c.args.next c.args.kind) c.requires
