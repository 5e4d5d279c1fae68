use native.Mathlib.Omega.{arith}
use Rattle.outline_need.proofs.Passing.{passes_cubic, passes-sum, passes-few}
use Rattle.outline_need.proofs.forwards_need.Goals as goal

pub add-requires : goal.add-requires
add-requires c =
    let n = passes-few c.conic_need-n1.ensures in
    let m = passes-few c.conic_need-n2.ensures in
    (omega arith, omega arith)

pub add-requires-2 : goal.add-requires-2
add-requires-2 c =
    let n = passes-few (passes-sum c.conic_need-n1.ensures c.conic_need-n2.ensures c.add.ensures) in
    (omega arith, omega arith)

pub returns : goal.returns
returns c =
    let o = c.args.o in
    passes-sum (passes-sum c.conic_need-n1.ensures c.conic_need-n2.ensures c.add.ensures) (passes_cubic o.second.to o.circle.c0 o.circle.c1 o.circle.to) c.add-2.ensures
