use native.Mathlib.Omega.{arith}
use Rattle.outline_need.proofs.Passing.{passes_cubic, passes-sum, passes-few}
use Rattle.outline_need.proofs.backwards_need.Goals as goal

pub add-requires : goal.add-requires
add-requires c = let n = passes-few c.conic_need-n1.ensures in (omega arith, omega arith)

pub add-requires-2 : goal.add-requires-2
add-requires-2 c =
    let a = c.args in
    let n = passes-few (passes-sum (passes_cubic a.pen a.o.circle.c0 a.o.circle.c1 a.o.circle.to) c.conic_need-n1.ensures c.add.ensures) in
    let m = passes-few c.conic_need-n2.ensures in
    (omega arith, omega arith)

pub returns : goal.returns
returns c =
    let a = c.args in
    passes-sum (passes-sum (passes_cubic a.pen a.o.circle.c0 a.o.circle.c1 a.o.circle.to) c.conic_need-n1.ensures c.add.ensures) c.conic_need-n2.ensures c.add-2.ensures
