use Rattle.std.proofs.Common.{rules, not, sym, ◌∙◌}
use borrow.Author.Tests.{not-true}
use lib.Ieee.{le}
use Rattle.lanes.proofs.Places.{map-agree}
use Rattle.octant.specs.Octant.{close_enough, compute_octant_of}
use Rattle.octant.specs.Stages.{round_octant_of}
use Rattle.octant.specs.declared.OctantFrame.{OctantFrame}
use Rattle.octant.proofs.Solving.{round_octant-is}
use Rattle.octant.proofs.compute_octants.Goals as goal

pub returns-then-all : goal.returns-then-all
returns-then-all g c =
    c.round_octants.ensures
    ∙ map-agree (λ (u : OctantFrame). not (le u.radius close_enough)) round_octant_of (λ (u : OctantFrame). compute_octant_of u.center u.a u.radius) (λ u e. round_octant-is u (not-true _ e)) c.args.u (sym (c.all.ensures _ (λ a b e. search rules)) ∙ c.if-all.true)
