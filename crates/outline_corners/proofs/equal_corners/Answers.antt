use Rattle.outline_corners.proofs.RoundCalls.{round_calls-is}
use Rattle.outline_corners.specs.Corners.{equal_corners, corner_calls}
use Rattle.outline_corners.proofs.equal_corners.Goals as goal

pub returns-then-is_square : goal.returns-then-is_square
unfolding equal_corners corner_calls
returns-then-is_square c = rw (← c.mul-scale1.ensures, ← c.mul-scale2.ensures, ← c.mul-scale3.ensures, ← c.mul-scale4.ensures, ← c.is_square.ensures, c.if-is_square.true, ← c.square_corner.ensures, ← c.square_corner-then-is_square.ensures, ← c.square_corner-then-is_square-2.ensures, ← c.square_corner-then-is_square-3.ensures)

pub returns : goal.returns
unfolding equal_corners corner_calls
returns c = rw (← c.mul-scale1.ensures, ← c.mul-scale2.ensures, ← c.mul-scale3.ensures, ← c.mul-scale4.ensures, ← c.is_square.ensures, c.if-is_square.false, round_calls-is, round_calls-is, round_calls-is, round_calls-is, ← c.solve-curves.ensures.top, ← c.solve-curves.ensures.right, ← c.round_corner.ensures, ← c.round_corner-2.ensures, ← c.round_corner-3.ensures, ← c.round_corner-4.ensures)
