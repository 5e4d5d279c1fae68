use mathlib.Core.Path.{refl, ap, ◌∙◌}
use Rattle.containment.specs.Contains.{norm_contains, corner_contains_of}
use Rattle.shape.specs.Layout.{quadrant_at}
use Rattle.containment.proofs.Corners.{round-asked}
use Rattle.containment.proofs.floats.same_holds.Goals as goal

pub returns-then-is_square : goal.returns-then-is_square
unfolding corner_contains_of
returns-then-is_square c = c.norm_holds.ensures ∙ ap (norm_contains (quadrant_at c.args.shape.now 0)) (rw (c.abs-n.ensures, c.div.ensures, c.sub.ensures, c.quadrant_at-corner.ensures) refl)

pub returns : goal.returns
unfolding corner_contains_of
returns c =
    round-asked _ _ _ _ _ c.quadrant_at-corner.ensures c.is_square.ensures c.if-is_square.false c.round_holds.ensures
    ∙ ap (norm_contains (quadrant_at c.args.shape.now 0)) (rw (c.abs-n.ensures, c.div.ensures, c.sub.ensures, c.quadrant_at-corner.ensures) refl)
