use mathlib.Core.Path.{sym, ◌∙◌}
use Rattle.ieee.proofs.Tests.{none_of_four}
use Rattle.quadrant.specs.Quadrant.{square_corner}
use Rattle.outline_corners.specs.Corners.{corner_calls, unequal_corners}
use Rattle.outline_corners.proofs.unequal_corners.Goals as goal

pub returns : goal.returns
unfolding unequal_corners corner_calls
returns c =
    let shape = c.args.shape in
    let n = none_of_four (square_corner shape.top_right) (square_corner shape.bottom_right) (square_corner shape.bottom_left) (square_corner shape.top_left) (sym c.any_square.ensures ∙ c.if-any_square.false) in
    rw (n.0, n.1, n.2, n.3, ← c.draw_round.ensures.first, ← c.draw_round.ensures.second, ← c.draw_round.ensures.third, ← c.draw_round.ensures.fourth)
