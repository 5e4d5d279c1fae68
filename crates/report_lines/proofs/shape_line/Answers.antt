-- `report_lines::shape_line` meets its contract. Assumes nothing.
use Rattle.std.proofs.Common.{arith, [], ◌∷◌}
use Rattle.report_lines.specs.Line.{line_of, shape_text}
use Rattle.report_lines.proofs.Adding.{added-two, numbered-past, named-past}
use Rattle.report_lines.proofs.shape_line.Goals as goal

pub number-c-requires : goal.number-c-requires
number-c-requires c = omega (arith, named-past _ shape_text _ (32 ∷ []) _ _ c.one_number-b.ensures)

pub number-requires : goal.number-requires
number-requires c = omega (arith, named-past _ shape_text _ (32 ∷ []) _ _ c.one_number-b.ensures, numbered-past _ _ _ _ _ _ c.number-c.ensures)

pub returns : goal.returns
unfolding line_of
returns c = added-two _ _ _ _ _ _ _ _ (added-two _ _ _ _ _ _ _ _ c.one_number-b.ensures c.number-c.ensures) c.number.ensures
