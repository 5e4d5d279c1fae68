-- `report_lines::two_numbers` meets its contract. Assumes nothing.
use Rattle.std.proofs.Common.{arith}
use Rattle.report_lines.proofs.Adding.{named-past}
use Rattle.report_lines.proofs.two_numbers.Goals as goal

pub number-requires : goal.number-requires
number-requires c = omega (arith, c.requires, named-past _ _ _ _ _ _ c.one_number-a.ensures)
