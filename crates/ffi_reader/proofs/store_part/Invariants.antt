-- `ffi_reader::store_part` meets its contract: the floats passed over are put.
use Rattle.std.proofs.Common.{◌≡◌, length, take}
use Rattle.ffi_reader.proofs.Parts.{over}
use Rattle.ffi_reader.proofs.store_part.Given as goal

abbrev pub invariant-loop-i : goal.invariant-loop-i
invariant-loop-i l = (length l.segment ≡ length l.initial.segment) × (l.segment ≡ over l.initial.segment (take l.i l.part))
