use mathlib.Core.Path.{◌≡◌, sym, ap, ◌∙◌}
use mathlib.Core.List.{◌++◌}
use Prim.Native.Nat.{◌+◌, ◌-◌, ◌^◌, ◌<◌, ◌≤◌}
use native.Mathlib.Omega.{arith}
use lib.ListN.{length, length-append}
use lib.Pow.{pow_mono}
use Rattle.conic.specs.Conic.{split_of}
use Rattle.conic.specs.Vectors.{conic_in}
use Rattle.conic.specs.Halving.{halve}
use Rattle.conic.proofs.Flat.{quad_is}
use Rattle.conic.proofs.Halving.{halve_one, halve_two, split_some}
use Rattle.conic.proofs.Vectors.{halves_meet, halves_with, halves_are, halves_split}
use Rattle.conic.proofs.Whole.{halve-few}
use Rattle.conic.proofs.+count_quads.Goals as goal

pub returns-then-one : goal.returns-then-one
returns-then-one t c start =
    let a = c.args in
    sym (ap length (halve_one a.depth (conic_in a.ends a.ctrl a.w) start (sym c.requires.one_quad ∙ c.if-one.true)))

pub overflow_sub-d : goal.overflow_sub-d
overflow_sub-d t c = let a = c.args in omega (arith, split_some a.depth (conic_in a.ends a.ctrl a.w) (sym c.requires.one_quad ∙ c.if-one.false))

pub is_near-near-requires : goal.is_near-near-requires
is_near-near-requires t c =
    let a = c.args in
    let s = c.subdivide-h in
    halves_meet (conic_in a.ends a.ctrl a.w) s.result.left s.result.ctrls s.result.right _ s.ensures

pub count_quads-requires : goal.count_quads-requires
count_quads-requires t c =
    let a = c.args in
    let s = c.subdivide-h.result in
    let u = c.half_weight-u.result in
    let h = halves_with s.left s.ctrls s.right c.second-right_ctrl.result u in
    let some : 0 < a.depth = split_some a.depth (conic_in a.ends a.ctrl a.w) (sym c.requires.one_quad ∙ c.if-one.false) in
    (omega (arith, c.decreases), (omega (arith, c.requires.falling), quad_is (a.depth - 1) h.left c.is_near_one.ensures (c.is_near-near.ensures h (halves_are s.left s.ctrls s.right _ u c.second-right_ctrl.ensures)).0))

pub count_quads-requires-2 : goal.count_quads-requires-2
count_quads-requires-2 t c =
    let a = c.args in
    let s = c.subdivide-h.result in
    let u = c.half_weight-u.result in
    let h = halves_with s.left s.ctrls s.right c.second-right_ctrl.result u in
    let some : 0 < a.depth = split_some a.depth (conic_in a.ends a.ctrl a.w) (sym c.requires.one_quad ∙ c.if-one.false) in
    (omega (arith, c.decreases), (omega (arith, c.requires.falling), quad_is (a.depth - 1) h.right c.is_near_one.ensures (c.is_near-near.ensures h (halves_are s.left s.ctrls s.right _ u c.second-right_ctrl.ensures)).1))

pub overflow_add-result : goal.overflow_add-result
overflow_add-result t c =
    let a = c.args in
    let s = c.subdivide-h.result in
    let h = halves_with s.left s.ctrls s.right c.second-right_ctrl.result c.half_weight-u.result in
    let d = a.depth - 1 in
    let h6 : d ≤ 6 = omega (arith, c.requires.falling) in
    let k : 2 ^ d ≤ 2 ^ 6 = pow_mono h6 in
    omega (arith, c.count_quads.ensures 0, c.count_quads-2.ensures 0, halve-few d h.left 0, halve-few d h.right 0)

pub returns : goal.returns
returns t c start =
    let a = c.args in
    let k = conic_in a.ends a.ctrl a.w in
    let s = c.subdivide-h.result in
    let u = c.half_weight-u in
    let d = a.depth - 1 in
    let h = halves_with s.left s.ctrls s.right c.second-right_ctrl.result u.result in
    let l = halve d h.left start in
    let r = halve d h.right (start + 2 ^ d) in
    let q : h ≡ split_of k = halves_split k s.left s.ctrls s.right _ u.result c.subdivide-h.ensures u.ensures c.second-right_ctrl.ensures in
    let e : halve a.depth k start ≡ l ++ r = halve_two a.depth k h start (sym c.requires.one_quad ∙ c.if-one.false) q in
    omega (arith, c.count_quads.ensures start, c.count_quads-2.ensures (start + 2 ^ d), ap length e, length-append l r)
