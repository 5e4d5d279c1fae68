use Rattle.std.proofs.Common.{rules, map, ap, ◌∙◌}
use Rattle.lanes.proofs.Places.{map-of_zip2}
use Rattle.octant_curves.specs.Conics.{superellipse_conics_of}
use Rattle.octant_curves.specs.Octants.{start_of, conics_from}
use Rattle.octant_curves.proofs.superellipse_conics.Goals as goal

pub returns : goal.returns
unfolding superellipse_conics_of
returns g c =
    let a = c.args in
    c.conics_from.ensures ∙ ap (map conics_from) (c.pairwise.ensures start_of (λ o y r e. search rules)) ∙ map-of_zip2 conics_from start_of a.o a.yj_over_a
