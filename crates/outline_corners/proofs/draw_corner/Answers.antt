use Rattle.outline_corners.proofs.RoundCalls.{round_calls-is}
use Rattle.outline_corners.specs.Corners.{corner_calls}
use Rattle.outline_corners.proofs.draw_corner.Goals as goal

pub returns-then-is_square : goal.returns-then-is_square
unfolding corner_calls
returns-then-is_square c = rw (← c.mul-scale.ensures, ← c.is_square.ensures, c.if-is_square.true, ← c.square_corner.ensures)

pub returns : goal.returns
unfolding corner_calls
returns c = rw (← c.mul-scale.ensures, ← c.is_square.ensures, c.if-is_square.false, round_calls-is, ← c.solve_apart-curves.ensures.top, ← c.solve_apart-curves.ensures.right, ← c.round_corner.ensures)
