-- `lines::for_each` meets its contract: the reader stays within the piece.
use Rattle.std.proofs.Common.{◌<◌, length}
use denote.Param.Always.{always_mut}
use Rattle.input.specs.Lines.{IsWithin}
use Rattle.input.proofs.lines.for_each.Given as goal

abbrev pub invariant-loop : goal.invariant-loop
invariant-loop g l = (always_mut g.F.FnMut l.initial.visit → always_mut g.F.FnMut l.visit) × IsWithin l.reader l.piece × (0 < length l.piece)
