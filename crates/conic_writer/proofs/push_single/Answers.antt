use Rattle.stream.specs.Stream.{state, push, advance_of}
use Rattle.conic_writer.proofs.push_single.Goals as goal

pub returns : goal.returns
unfolding push advance_of
returns c = let e = c.push_piece.ensures in λ i. state (c.after_quads.ensures i) (e.verbs_after i) (e.points_after i)
