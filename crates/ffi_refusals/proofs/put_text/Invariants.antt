-- `ffi_refusals::put_text` meets its contract: the bytes passed over are those of the padded text.
use Rattle.std.proofs.Common.{◌≡◌, length, take}
use Rattle.ffi_refusals.specs.Texts.{padded}
use Rattle.ffi_refusals.proofs.put_text.Given as goal

abbrev pub invariant-loop-i : goal.invariant-loop-i
invariant-loop-i l = (length l.bytes ≡ 64) × (take l.i l.bytes ≡ take l.i (padded l.text))
