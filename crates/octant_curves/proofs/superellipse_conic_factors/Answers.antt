use native.Mathlib.Omega.{arith}
use Rattle.octant.proofs.Rows.{casts}
use Rattle.octant_curves.proofs.superellipse_conic_factors.Goals as goal

pub int_to_float-frac : goal.int_to_float-frac
int_to_float-frac c = casts c.left_row-left.result (omega arith)
