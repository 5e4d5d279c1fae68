use Rattle.trigonometry.proofs.Range.{low_end, below_it}
use Rattle.trigonometry.proofs.in_range.Goals as goal

pub returns-then-t : goal.returns-then-t
returns-then-t c = low_end c.args.t c.if-t.true

pub returns-else-t : goal.returns-else-t
returns-else-t c = rw c.if-t.false (below_it c.args.t c.if-t.false)
