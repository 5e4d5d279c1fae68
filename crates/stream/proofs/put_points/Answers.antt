use Rattle.stream.proofs.Put.{put-after, put_nil}
use mathlib.Core.Path.{sym, ◌∙◌}
use native.Mathlib.Omega.{arith}
use Prim.Native.Nat.{◌*◌, ◌+◌}
use Rattle.stream.proofs.put_points.Goals as goal

pub returns-in-Quad : goal.returns-in-Quad
returns-in-Quad c =
    let a = c.args in
    rw c.in-Quad.is (c.put_point-in-Quad-2.ensures ∙ put-after a.points.now _ (2 * a.at) (2 * a.at + 2) _ _ (omega (arith, c.put_point-in-Quad.auto)) (omega arith) c.put_point-in-Quad.ensures)

pub returns-in-Cubic : goal.returns-in-Cubic
returns-in-Cubic c =
    let a = c.args in
    let i = 2 * a.at in
    rw c.in-Cubic.is
    (c.put_point-in-Cubic-3.ensures ∙ put-after a.points.now _ i (2 * a.at + 4) _ _ (omega (arith, c.put_point-in-Cubic.auto)) (omega arith)
    (c.put_point-in-Cubic-2.ensures ∙ put-after a.points.now _ i (2 * a.at + 2) _ _ (omega (arith, c.put_point-in-Cubic.auto)) (omega arith) c.put_point-in-Cubic.ensures))

pub returns-in-Close : goal.returns-in-Close
returns-in-Close c = rw c.in-Close.is (sym (put_nil c.args.points.now _))
