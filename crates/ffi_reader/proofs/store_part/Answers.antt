use Rattle.std.proofs.Common.{◌≤◌, length, refl, sym, ap, ◌∙◌, arith, add-one}
use Rattle.std.proofs.Math.ListN.{length-set}
use lib.Seq.{take_all}
use Rattle.ffi_reader.proofs.Parts.{over, over_more, put_over}
use Rattle.ffi_reader.proofs.store_part.Goals as goal

pub loop-i-init : goal.loop-i-init
unfolding over
loop-i-init c = (refl, refl)

pub loop-i-preserved : goal.loop-i-preserved
loop-i-preserved c =
    let a = c.args in
    let loop = c.loop-i in (
      simp length-set loop.invariant.0,
      rw (loop.invariant.1, add-one loop.i) (over_more a.segment.now a.part.now loop.i c.loop-i-test.true c.requires),
    )

pub returns : goal.returns
returns c =
    let a = c.args in
    let loop = c.loop-i in
    let e : length a.part.now ≤ loop.i = omega (arith, c.loop-i-test.false) in
    loop.invariant.1 ∙ ap (over a.segment.now) (take_all loop.i a.part.now e) ∙ sym (put_over a.segment.now a.part.now c.requires)
