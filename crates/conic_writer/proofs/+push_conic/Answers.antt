-- A conic that is one quad, and one whose halves are halved on.
use mathlib.Core.Path.{sym, ◌∙◌}
use Prim.Native.Nat.{◌-◌}
use native.Mathlib.Omega.{arith}
use lib.Pow.{pow_pos}
use Rattle.conic.specs.Vectors.{conic_in}
use Rattle.conic.specs.Halving.{halve}
use Rattle.conic.proofs.Flat.{quad_is}
use Rattle.conic.proofs.Halving.{halve_one, split_some}
use Rattle.conic.proofs.Vectors.{halves_meet, halves_with, halves_are, halves_split}
use Rattle.conic_writer.proofs.Writing.{one-quad, one-wrote, split, both-wrote}
use Rattle.conic_writer.proofs.+push_conic.Goals as goal

pub put_quad-requires : goal.put_quad-requires
put_quad-requires t c =
    let a = c.args in
    let s = c.requires in
    let h = one-quad _ (conic_in a.ends a.ctrl a.w) a.start _ (omega (arith, s.span, pow_pos a.depth)) (halve_one a.depth _ a.start (sym s.one_quad ∙ c.if-one.true)) in
    omega (arith, h.many, s.point_room)

pub overflow_add-word : goal.overflow_add-word
overflow_add-word t c =
    let a = c.args in
    let s = c.requires in
    let h = one-quad _ (conic_in a.ends a.ctrl a.w) a.start _ (omega (arith, s.span, pow_pos a.depth)) (halve_one a.depth _ a.start (sym s.one_quad ∙ c.if-one.true)) in
    omega (arith, h.word, s.bit_room)

pub returns-then-one : goal.returns-then-one
returns-then-one t c =
    let a = c.args in
    let s = c.requires in
    let k = conic_in a.ends a.ctrl a.w in
    let h = one-quad _ k a.start _ (omega (arith, s.span, pow_pos a.depth)) (halve_one a.depth k a.start (sym s.one_quad ∙ c.if-one.true)) in
    let r = one-wrote _ k a.start a.at a.word h c.put_quad.ensures in
    record { points_after = r.points; at_after = r.end; word_after = r.bits }

pub overflow_sub-d : goal.overflow_sub-d
overflow_sub-d t c = let a = c.args in omega (arith, split_some a.depth (conic_in a.ends a.ctrl a.w) (sym c.requires.one_quad ∙ c.if-one.false))

pub is_near-near-requires : goal.is_near-near-requires
is_near-near-requires t c =
    let a = c.args in
    let m = c.subdivide-h in
    halves_meet (conic_in a.ends a.ctrl a.w) m.result.left m.result.ctrls m.result.right _ m.ensures

pub push_conic-mid-requires : goal.push_conic-mid-requires
push_conic-mid-requires t c =
    let a = c.args in
    let s = c.requires in
    let k = conic_in a.ends a.ctrl a.w in
    let m = c.subdivide-h.result in
    let u = c.half_weight-u.result in
    let h = halves_with m.left m.ctrls m.right c.second-right_ctrl.result u in
    let e = halves_split k m.left m.ctrls m.right _ u c.subdivide-h.ensures c.half_weight-u.ensures c.second-right_ctrl.ensures in
    let n = c.is_near-near.ensures h (halves_are m.left m.ctrls m.right _ u c.second-right_ctrl.ensures) in
    let p = split a.depth k h a.start s.falling (sym s.one_quad ∙ c.if-one.false) e in (
      omega (arith, c.decreases, p.some),
      (quad_is (a.depth - 1) _ c.is_near_one.ensures n.0, (omega (arith, s.falling), (omega (arith, s.span, p.half, p.whole), (omega (arith, s.point_room, p.both.many), omega (arith, s.bit_room, p.both.word))))),
    )

pub push_conic-requires : goal.push_conic-requires
push_conic-requires t c =
    let a = c.args in
    let s = c.requires in
    let k = conic_in a.ends a.ctrl a.w in
    let m = c.subdivide-h.result in
    let u = c.half_weight-u.result in
    let h = halves_with m.left m.ctrls m.right c.second-right_ctrl.result u in
    let e = halves_split k m.left m.ctrls m.right _ u c.subdivide-h.ensures c.half_weight-u.ensures c.second-right_ctrl.ensures in
    let n = c.is_near-near.ensures h (halves_are m.left m.ctrls m.right _ u c.second-right_ctrl.ensures) in
    let p = split a.depth k h a.start s.falling (sym s.one_quad ∙ c.if-one.false) e in
    let first = c.push_conic-mid in (
      omega (arith, c.decreases, p.some),
      (quad_is (a.depth - 1) _ c.is_near_one.ensures n.1, (omega (arith, s.falling), (omega (arith, s.span, p.whole), (omega (arith, s.point_room, p.both.many, first.ensures.at_after, first.auto.points), omega (arith, s.bit_room, p.both.word, first.ensures.word_after))))),
    )

pub returns : goal.returns
returns t c =
    let a = c.args in
    let s = c.requires in
    let k = conic_in a.ends a.ctrl a.w in
    let m = c.subdivide-h.result in
    let u = c.half_weight-u.result in
    let h = halves_with m.left m.ctrls m.right c.second-right_ctrl.result u in
    let e = halves_split k m.left m.ctrls m.right _ u c.subdivide-h.ensures c.half_weight-u.ensures c.second-right_ctrl.ensures in
    let p = split a.depth k h a.start s.falling (sym s.one_quad ∙ c.if-one.false) e in
    let x = c.push_conic-mid.ensures in
    let y = c.push_conic.ensures in
    let w = both-wrote (halve a.depth k a.start) _ _ (omega (arith, s.point_room)) p.both record { points = x.points_after; end = x.at_after; bits = x.word_after } record { points = y.points_after; end = y.at_after; bits = y.word_after } in
    record { points_after = w.points; at_after = w.end; word_after = w.bits }
