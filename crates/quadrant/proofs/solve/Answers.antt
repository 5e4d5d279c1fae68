-- `quadrant::solve` meets its contract: an octant that is moved is the one solved elsewhere.
use mathlib.Core.Path.{◌≡◌, ap, ◌∙◌}
use lib.Ieee.{Float}
use Rattle.octant.specs.declared.Octant.{Octant}
use Rattle.octant.specs.Octant.{compute_octant_of, with_offset}
use Rattle.octant.proofs.Offset.{with_offset-octant}
use Rattle.quadrant.specs.Quadrant.{top_offset_of, right_offset_of, quadrant_of}
use Rattle.quadrant.proofs.solve.Goals as goal

pub returns-then-is_one_float : goal.returns-then-is_one_float
unfolding quadrant_of
returns-then-is_one_float c =
    let f = c.args.f in
    let half = f.half_size in
    let same = c.is_one_float.ensures c.if-is_one_float.true in
    let top : c.compute_octant-top.result ≡ compute_octant_of (top_offset_of f) half.x f.radius = c.compute_octant-top.ensures ∙ ap (λ p. compute_octant_of p half.x f.radius) c.top_offset.ensures in
    let right : c.with_offset.result ≡ compute_octant_of (right_offset_of f) half.y f.radius =
    c.with_offset.ensures
    ∙ ap (λ p. with_offset c.compute_octant-top.result p) c.right_offset.ensures
    ∙ ap (λ (o : Octant). with_offset o (right_offset_of f)) top
    ∙ with_offset-octant (top_offset_of f) (right_offset_of f) half.x f.radius
    ∙ ap (λ (x : Float). compute_octant_of (right_offset_of f) x f.radius) same in
    rw (c.quadrant_with.ensures, right, top)
