use mathlib.Core.Path.{◌∙◌}
use Rattle.containment.proofs.Corners.{all_hold, first_holds}
use Rattle.containment.proofs.floats.contains.Goals as goal

pub returns-then-shape : goal.returns-then-shape
returns-then-shape c = c.corners_hold.ensures ∙ all_hold c.args.shape.now c.args.p c.if-shape.true

pub returns : goal.returns
returns c = c.same_holds.ensures ∙ first_holds c.args.shape.now c.args.p c.if-shape.false
