-- `Reply`'s `fmt` meets its contract. Assumes nothing.
use Rattle.std.proofs.Common.{◌≡◌, List, ℕ, sym, subst, refl}
use Rattle.std.specs.Fmt.{HasWritten}
use Rattle.std.proofs.lemmas.List.{length-take-le}
use Rattle.replies.proofs.Told.{line_in_128}
use Rattle.replies.proofs.ReplyDisplay.fmt.Goals as goal

pub slice_bounds-line-count : goal.slice_bounds-line-count
slice_bounds-line-count g c = (line_in_128 _ _ refl c.put-len.ensures.small c.put-len.ensures.line).0

pub slice_bounds-line-end : goal.slice_bounds-line-end
slice_bounds-line-end g c = (line_in_128 _ _ refl c.put-len.ensures.small c.put-len.ensures.line).1.0

pub slice_bounds-write_bytes-length : goal.slice_bounds-write_bytes-length
slice_bounds-write_bytes-length g c =
    sym (length-take-le _ _ (line_in_128 _ _ refl c.put-len.ensures.small c.put-len.ensures.line).1.0)

pub returns-clause-writes : goal.returns-clause-writes
returns-clause-writes g c =
    let text = (line_in_128 _ _ refl c.put-len.ensures.small c.put-len.ensures.line).1.1 in
    λ plain ok. subst (λ (t : List ℕ). HasWritten {W = g.row.W.Denot} g.W.Write.write_str_gives c.args.f.now t c.write_bytes.new.f) text (c.write_bytes.ensures plain ok)
