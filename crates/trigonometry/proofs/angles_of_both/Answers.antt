use Rattle.std.proofs.Common.{rules}
use mathlib.Core.Path.{ap₂}
use Rattle.ieee.proofs.Tests.{both}
use Rattle.trigonometry.specs.Stages.{place_of, ratio_of, turned_of}
use Rattle.trigonometry.proofs.Choices.{by_stages, side_by_side}
use Rattle.trigonometry.proofs.angles_of_both.Goals as goal

pub returns-then-all_plain : goal.returns-then-all_plain
returns-then-all_plain g c =
    let plain = both _ _ c.if-all_plain.true in
    let a = by_stages _ _ _ _ (c.each-r.ensures.mapped ratio_of (λ a b e. e)) c.arctangents-f.ensures (c.pairwise-a.ensures turned_of (λ a b r e. e)) in
    let b = by_stages _ _ _ _ (c.each-s.ensures.mapped ratio_of (λ a b e. e)) c.arctangents-g.ensures (c.pairwise-b.ensures turned_of (λ a b r e. e)) in
    ap₂ (λ a b. (a, b))
    (side_by_side c.args.ys c.args.xs _ _ _ (c.all_plain.ensures plain.0) (c.pairwise-p.ensures place_of (λ a b r e. search rules)) a c.narrow.ensures)
    (side_by_side c.args.other_ys c.args.other_xs _ _ _ (c.all_plain-2.ensures plain.1) (c.pairwise-q.ensures place_of (λ a b r e. search rules)) b c.narrow-then-all_plain.ensures)
