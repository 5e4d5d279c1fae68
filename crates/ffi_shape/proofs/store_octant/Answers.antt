use Rattle.ffi_shape.proofs.Storing.{octant_stored}
use native.Mathlib.Omega.{arith}
use lib.ListN.{length-set}
use Rattle.ffi_shape.proofs.store_octant.Goals as goal

pub shape_of-floats : goal.shape_of-floats
shape_of-floats c = simp length-set (omega (arith, c.put_point.auto, c.put_point-2.auto, c.put_point-3.auto, c.put_point-4.auto))

pub returns : goal.returns
returns c =
    let a = c.args in
    octant_stored a.floats.now _ _ _ _ a.at a.o c.requires c.put_point.ensures c.put_point-2.ensures c.put_point-3.ensures c.put_point-4.ensures (omega (arith, c.put_point.auto, c.put_point-2.auto, c.put_point-3.auto, c.put_point-4.auto))
