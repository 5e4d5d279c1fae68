-- `lines::Reader::take_line` meets its contract: what is held is a part of the line, and what is left follows it.
use Rattle.std.proofs.Common.{◌≡◌, ◌<◌, false, length}
use Rattle.input.specs.Lines.{IsWithin, bytes_left}
use Rattle.input.proofs.Lining.{Begun}
use Rattle.input.proofs.lines.Reader.take_line.Given as goal

abbrev pub invariant-loop : goal.invariant-loop
invariant-loop g l = record {
  room : 0 < length l.piece;
  within : IsWithin l.self l.piece;
  ended : l.self.ended ≡ false;
  piece : length l.piece ≡ length l.initial.piece;
  line : length l.line ≡ length l.initial.line;
  begun : Begun (bytes_left l.initial.self l.initial.piece (g.R.Read.remaining l.initial.input)) (bytes_left l.self l.piece (g.R.Read.remaining l.input)) l.held l.line;
}
