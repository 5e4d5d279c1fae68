-- `Hexadecimal`'s `fmt` meets its contract. Assumes nothing.
use Rattle.std.proofs.Common.{◌≡◌, List, ℕ, sym, subst}
use Rattle.std.specs.Fmt.{HasWritten}
use Rattle.std.proofs.lemmas.List.{length-take-le}
use Rattle.text.proofs.Placing.{at_start, hexadecimal_text-most}
use Rattle.text.proofs.floats.HexadecimalDisplay.fmt.Goals as goal

pub slice_bounds-buffer-end : goal.slice_bounds-buffer-end
slice_bounds-buffer-end g c = (at_start c.put_hexadecimal-len.ensures (hexadecimal_text-most _)).0

pub slice_bounds-write_bytes-end : goal.slice_bounds-write_bytes-end
slice_bounds-write_bytes-end g c = sym (length-take-le _ _ (at_start c.put_hexadecimal-len.ensures (hexadecimal_text-most _)).0)

pub returns-clause-writes : goal.returns-clause-writes
returns-clause-writes g c =
    λ plain ok. subst (λ (t : List ℕ). HasWritten {W = g.row.W.Denot} g.W.Write.write_str_gives c.args.f.now t c.write_bytes.new.f) (at_start c.put_hexadecimal-len.ensures (hexadecimal_text-most _)).1 (c.write_bytes.ensures plain ok)
