use lib.Ieee.{nan}
use Prim.Native.Nat.{◌*◌}
use lib.ListN.{length-set}
use native.Mathlib.Omega.{arith}
use Rattle.conic.specs.Vectors.{point_in}
use Rattle.lanes.proofs.Places.{four_lanes}
use Rattle.conic_writer.proofs.Writing.{put_four}
use Rattle.conic_writer.proofs.put_quad.Goals as goal

pub bounds-points-i-2 : goal.bounds-points-i-2
bounds-points-i-2 c = simp length-set (omega arith)

pub bounds-points-i-3 : goal.bounds-points-i-3
bounds-points-i-3 c = simp length-set (omega arith)

pub bounds-points-i-4 : goal.bounds-points-i-4
bounds-points-i-4 c = simp length-set (omega arith)

pub returns : goal.returns
returns c =
    let a = c.args in
    let q = point_in a.ctrl 0 in
    let p = point_in a.ends 2 in
    rw (four_lanes nan a.ctrl c.fits-ctrl.0, four_lanes nan a.ends c.fits-ends.0) (put_four a.points.now (2 * a.at) q.x q.y p.x p.y (omega (arith, c.requires)))
