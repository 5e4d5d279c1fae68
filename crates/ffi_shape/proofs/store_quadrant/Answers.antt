use Rattle.ffi_shape.proofs.Storing.{quadrant_stored}
use Rattle.ffi_shape.proofs.store_quadrant.Goals as goal

pub returns : goal.returns
returns c =
    let a = c.args in
    quadrant_stored a.floats.now _ _ _ _ a.at a.q c.requires c.put_point.ensures c.put_point-2.ensures c.store_octant.ensures c.store_octant-2.ensures
