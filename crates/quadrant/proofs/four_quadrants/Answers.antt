use Rattle.std.proofs.Common.{rules, sym, ◌∙◌}
use native.Mathlib.Omega.{arith}
use Rattle.quadrant.proofs.Corner.{is_round, four-are}
use Rattle.quadrant.proofs.four_quadrants.Goals as goal

pub returns-then-all : goal.returns-then-all
returns-then-all c =
    rw (c.quadrant_with.ensures, c.quadrant_with-then-all.ensures, c.quadrant_with-then-all-2.ensures, c.quadrant_with-then-all-3.ensures, c.round_octants.ensures, c.top_octant.ensures, c.right_octant.ensures, c.top_octant-then-all.ensures, c.right_octant-then-all.ensures, c.top_octant-then-all-2.ensures, c.right_octant-then-all-2.ensures, c.top_octant-then-all-3.ensures, c.right_octant-then-all-3.ensures)
    (four-are c.args.f (omega arith) (sym (c.all.ensures is_round (λ a b e. search rules)) ∙ c.if-all.true) _ _ _ _)
