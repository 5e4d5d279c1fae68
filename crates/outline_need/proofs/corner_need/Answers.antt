use native.Mathlib.Omega.{arith}
use Rattle.outline_need.proofs.Passing.{passes-few}
use Rattle.outline_need.proofs.Counted.{counted_square, counted_round}
use Rattle.outline_need.proofs.corner_need.Goals as goal

pub add-requires : goal.add-requires
add-requires c =
    let n = passes-few c.forwards_need-n1.ensures in
    let m = passes-few c.backwards_need-n2.ensures in
    (omega arith, omega arith)

pub returns-in-Square : goal.returns-in-Square
returns-in-Square c = counted_square c.args.pen _ _ _ c.in-Square.is

pub returns-in-Round : goal.returns-in-Round
returns-in-Round c =
    counted_round c.args.pen _ _ _ _ _ c.in-Round.is
    c.forwards_need-n1.ensures c.backwards_need-n2.ensures c.add.ensures
