use Rattle.std.proofs.Common.{◌≡◌, ◌+◌}
use native.Mathlib.Omega.{arith}
use Rattle.geometry.specs.Point.{sub_of, div_of}
use Rattle.containment.proofs.floats.own_points.Goals as goal

pub returns : goal.returns
unfolding sub_of div_of
returns c =
    let at = c.args.at in
    let a : at + 2 + 1 ≡ at + 3 = omega arith in
    let b : at + 22 + 1 ≡ at + 23 = omega arith in
    let d : at + 22 + 2 ≡ at + 24 = omega arith in
    let e : at + 24 + 1 ≡ at + 25 = omega arith in
    rw (a, b, d, e)
