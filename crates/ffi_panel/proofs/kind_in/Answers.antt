use Rattle.std.proofs.Common.{arith}
use Rattle.ffi_panel.proofs.Answers.{no_kind}
use Rattle.ffi_panel.proofs.kind_in.Goals as goal

pub returns-in-Err : goal.returns-in-Err
returns-in-Err c = no_kind _ (omega (arith, c.in-Err.ensures))
