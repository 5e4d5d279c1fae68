use Rattle.std.proofs.Common.{◌≡◌, rules, map, refl}
use Rattle.ieee.specs.Binary32.{◌⊘◌}
use Rattle.octant.specs.declared.Octant.{Octant}
use Rattle.octant_curves.specs.Conics.{superellipse_conics_of}
use Rattle.lanes.proofs.Places.{zip2-of_map_right}
use Rattle.octant_curves.specs.Octants.{conics_of}
use Rattle.octant_curves.proofs.conics.Goals as goal

pub returns : goal.returns
returns g c =
    let heights : c.each.result ≡ map (λ (o : Octant). o.circle_start.y ⊘ o.se_a) c.args.o = c.each.ensures.mapped _ (λ a b e. search rules) in
    zip2-of_map_right superellipse_conics_of _ conics_of (λ a. refl) c.args.o _ _ heights c.superellipse_conics.ensures
