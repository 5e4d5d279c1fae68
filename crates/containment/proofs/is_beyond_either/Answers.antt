use mathlib.Core.Path.{ap, ◌∙◌}
use Rattle.containment.proofs.Tested.{tested, tested-is}
use Rattle.containment.proofs.is_beyond_either.Goals as goal

pub returns : goal.returns
unfolding tested
returns c =
    let a = c.args in
    ap (tested a.from a.bounds a.n) c.squared_distances-d.ensures ∙ tested-is a.from a.center a.bounds a.n c.fits-from.0 c.fits-center.0 c.fits-bounds.0
