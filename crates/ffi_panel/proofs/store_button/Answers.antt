-- `ffi_panel::store_button` meets its contract. Assumes nothing.
use Rattle.ffi_panel.proofs.Storing.{button-stored}
use Rattle.ffi_panel.proofs.store_button.Goals as goal

pub returns : goal.returns
returns c =
    let e = c.points.ensures in
    button-stored _ _ _ _ _ _ _ c.args.b
    (rw e at c.put_point.ensures) (rw e at c.put_point-2.ensures) (rw e at c.put_point-3.ensures)
    (rw e at c.put_point-4.ensures) (rw e at c.put_point-5.ensures) (rw e at c.put_point-6.ensures)
