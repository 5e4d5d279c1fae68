use mathlib.Core.Path.{ap, ◌∙◌}
use native.Mathlib.Omega.{arith}
use Rattle.shape.specs.Layout.{shape_at}
use Rattle.shape.proofs.ReadBack.{shapes_read_back}
use Rattle.ffi_shape.proofs.Storing.{flag_is, shape-stored}
use Rattle.ffi_shape.proofs.store_shape.Goals as goal

pub returns : goal.returns
returns c =
    let a = c.args in
    let whole = shape-stored a.floats.now _ _ _ _ _ a.s c.told-floats c.store_quadrant.ensures c.store_quadrant-2.ensures c.store_quadrant-3.ensures c.store_quadrant-4.ensures (flag_is _ _ c.from.ensures) (omega (arith, c.store_quadrant.auto, c.store_quadrant-2.auto, c.store_quadrant-3.auto, c.store_quadrant-4.auto)) in
    record { floats = whole; read_back = ap shape_at whole ∙ shapes_read_back a.s }
