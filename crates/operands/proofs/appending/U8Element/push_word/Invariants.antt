-- `operands::U8Element::push_word` meets its contract and ends: the digits that are left go behind what is held. Assumes nothing.
use Rattle.std.proofs.Common.{◌≡◌, length, Some}
use Rattle.operands.specs.Appending.{filled, with_bytes}
use Rattle.operands.proofs.appending.U8Element.push_word.Given as goal

abbrev pub invariant-loop-digits : goal.invariant-loop-digits
invariant-loop-digits l =
    with_bytes (length l.word) (filled (Some l.initial.held) l.initial.verbs) l.word
    ≡ with_bytes (length l.rest) (filled (Some l.held) l.verbs) l.rest

abbrev pub decreases-loop-digits : goal.decreases-loop-digits
decreases-loop-digits l = length l.rest
