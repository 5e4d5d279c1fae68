use Rattle.containment.proofs.Folding.{corner-passed, corner-asked}
use Rattle.containment.proofs.corner_contains.Goals as goal

pub returns-then-is_passed_over : goal.returns-then-is_passed_over
returns-then-is_passed_over c =
    let a = c.args in
    corner-passed a.param a.p a.check_quadrant _ _ _ c.sub.ensures c.div-norm_point.ensures c.is_passed_over.ensures c.if-is_passed_over.true

pub returns : goal.returns
returns c =
    let a = c.args in
    corner-asked a.param a.p a.check_quadrant _ _ _ c.sub.ensures c.div-norm_point.ensures c.is_passed_over.ensures _ _ _ c.mirrored.ensures c.mirrored-2.ensures c.norm_contains.ensures c.if-is_passed_over.false
