-- `operands::push` meets its contract and ends: the words that are left go behind what is held. Assumes nothing.
use Rattle.std.proofs.Common.{◌≡◌, length, Some}
use Rattle.operands.specs.Operands.{over_words}
use Rattle.operands.specs.Appending.{filled}
use Rattle.operands.proofs.appending.push.Given as goal

abbrev pub invariant-loop-word : goal.invariant-loop-word
invariant-loop-word g l =
    over_words g.T.Element.with_word (length l.line) (filled (Some l.initial.held) l.initial.buffer) l.line
    ≡ over_words g.T.Element.with_word (length l.rest) (filled (Some l.held) l.buffer) l.rest

abbrev pub decreases-loop-word : goal.decreases-loop-word
decreases-loop-word g l = length l.rest
