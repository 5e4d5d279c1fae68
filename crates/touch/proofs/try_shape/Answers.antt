-- `touch::try_shape` meets its contract.
use Rattle.std.proofs.Common.{List, ◌≤◌, ◌<◌, length, refl, ap, ◌∙◌, arith}
use Rattle.std.proofs.Math.ListN.{length-set}
use lib.Seq.{take_all}
use lib.Ieee.{nan}
use Rattle.geometry.specs.declared.Point.{Point}
use Rattle.containment.specs.Contains.{contains_of}
use Rattle.containment.proofs.Beyond.{shape-beyond}
use Rattle.touch.specs.Search.{points_in, places_after_shape}
use Rattle.touch.proofs.Marking.{places_after_shape-floats}
use Rattle.touch.proofs.Gathering.{points-length}
use Rattle.touch.proofs.try_shape.Goals as goal

pub loop-i-init : goal.loop-i-init
unfolding places_after_shape
loop-i-init c = (refl, refl)

pub top_hit-requires : goal.top_hit-requires
top_hit-requires c =
    let near = c.nearest.ensures in
    shape-beyond c.args.shape _ _ _ _ c.quick_rejects-arcs.ensures near.corner near.first

pub loop-i-preserved : goal.loop-i-preserved
loop-i-preserved c =
    let a = c.args in
    let loop = c.loop-i in
    let within : loop.i < length a.results.now = omega (arith, loop.invariant.0) in (
      simp length-set loop.invariant.0,
      rw (c.top_hit.ensures, loop.invariant.1) (places_after_shape-floats (contains_of a.shape) a.index a.points.now a.results.now loop.i nan c.requires within),
    )

pub returns : goal.returns
returns c =
    let a = c.args in
    let loop = c.loop-i in
    let e : length (points_in a.points.now) ≤ loop.i = omega (arith, points-length a.points.now (length a.results.now) c.requires) in
    loop.invariant.1 ∙ ap (λ (ps : List Point). places_after_shape (contains_of a.shape) a.index ps a.results.now) (take_all loop.i (points_in a.points.now) e)
