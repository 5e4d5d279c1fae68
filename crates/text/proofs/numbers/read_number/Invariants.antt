-- `text::numbers::read_number` meets its contract: the digits before b spell n, and the number is what those from b on make of it. Assumes nothing.
use Rattle.std.proofs.Common.{◌≡◌, drop}
use Rattle.text.specs.Numbers.{number_from, number_of}
use Rattle.text.proofs.numbers.read_number.Given as goal

abbrev pub invariant-loop-b : goal.invariant-loop-b
invariant-loop-b l = number_of l.base l.s ≡ number_from l.base l.n (drop l.b-index l.s)
