-- `operands::read` meets its contract and ends: what the line spells is what the words that are left make of the operands so far. Assumes nothing.
use Rattle.std.proofs.Common.{◌≡◌, length, Some}
use Rattle.operands.specs.Operands.{operands_of, over_words, with_next}
use Rattle.operands.proofs.read.Given as goal

abbrev pub invariant-loop-word : goal.invariant-loop-word
invariant-loop-word l = operands_of l.line ≡ over_words with_next (length l.rest) (Some l.x.items) l.rest

abbrev pub decreases-loop-word : goal.decreases-loop-word
decreases-loop-word l = length l.rest
