use mathlib.Core.Path.{ap, ◌∙◌}
use lib.Dec.{lit≤}
use Rattle.stream.specs.declared.Need.{Need}
use Rattle.stream.specs.Stream.{sum_of}
use Rattle.outline_need.proofs.Counted.{counted_few, sum_few, few_sum, counted_outline}
use Rattle.outline_need.proofs.outline_need.Goals as goal

pub add-requires : goal.add-requires
add-requires c = few_sum (counted_few c.args.o.corners.first c.corner_need-n1.ensures) (counted_few c.args.o.corners.second c.corner_need-n2.ensures) (lit≤ tt)

pub add-requires-2 : goal.add-requires-2
add-requires-2 c =
    let two = sum_few (counted_few c.args.o.corners.first c.corner_need-n1.ensures) (counted_few c.args.o.corners.second c.corner_need-n2.ensures) c.add.ensures in
    few_sum two (counted_few c.args.o.corners.third c.corner_need-n3.ensures) (lit≤ tt)

pub add-requires-3 : goal.add-requires-3
add-requires-3 c =
    let two = sum_few (counted_few c.args.o.corners.first c.corner_need-n1.ensures) (counted_few c.args.o.corners.second c.corner_need-n2.ensures) c.add.ensures in
    let three = sum_few two (counted_few c.args.o.corners.third c.corner_need-n3.ensures) c.add-2.ensures in
    few_sum three (counted_few c.args.o.corners.fourth c.corner_need-n4.ensures) (lit≤ tt)

pub add-requires-4 : goal.add-requires-4
add-requires-4 c =
    let two = sum_few (counted_few c.args.o.corners.first c.corner_need-n1.ensures) (counted_few c.args.o.corners.second c.corner_need-n2.ensures) c.add.ensures in
    let three = sum_few two (counted_few c.args.o.corners.third c.corner_need-n3.ensures) c.add-2.ensures in
    let four = sum_few three (counted_few c.args.o.corners.fourth c.corner_need-n4.ensures) c.add-3.ensures in
    few_sum {l = 1} four (record { verbs = lit≤ tt; points = lit≤ tt }) (lit≤ tt)

pub returns : goal.returns
returns c =
    let n3 = c.corner_need-n3.result in
    let n4 = c.corner_need-n4.result in
    let ends : Need = record { verbs = 3; points = 2 } in
    let three = c.add-2.ensures ∙ ap (λ (x : Need). sum_of x n3) c.add.ensures in
    let four = c.add-3.ensures ∙ ap (λ (x : Need). sum_of x n4) three in
    counted_outline c.args.o _ _ _ _ _ _ _ _ c.last_point.ensures c.last_point-2.ensures c.last_point-3.ensures
    c.corner_need-n1.ensures c.corner_need-n2.ensures c.corner_need-n3.ensures c.corner_need-n4.ensures (c.add-4.ensures ∙ ap (λ (x : Need). sum_of x ends) four)
