use Rattle.ffi_panel.proofs.Back.{written_is_read}
use Rattle.ffi_panel.proofs.written_records_are_read.Goals as goal

pub returns : goal.returns
returns c = written_is_read
