use Rattle.std.proofs.Common.{arith}
use Rattle.panel_file.proofs.Back.{payload_short}
use Rattle.panel_file.proofs.writing.end_within.Goals as goal

pub overflow_add-size : goal.overflow_add-size
overflow_add-size c = omega (arith, c.payload-size.ensures, payload_short c.kind.result)
