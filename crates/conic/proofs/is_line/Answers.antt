use mathlib.Core.Path.{◌≡◌, refl}
use mathlib.Core.Bool.{Bool, true, false, not, ◌&&◌, ◌||◌}
use lib.Ieee.Scale.{finite}
use Rattle.ieee.proofs.Simple.{finite-is}
use Rattle.ieee.proofs.Specials.{inf32_is, minus_inf32_is}
use Rattle.geometry.specs.Point.{finite_point}
use Rattle.conic.specs.Conic.{is_line}
use Rattle.conic.proofs.Weight.{above}
use Rattle.conic.proofs.is_line.Goals as goal

in_pairs : (a b c d : Bool) → not (a && (b && (c && (d && true)))) ≡ (not (a && b) || not (c && d))
in_pairs false b c d = refl
in_pairs true false c d = refl
in_pairs true true false d = refl
in_pairs true true true false = refl
in_pairs true true true true = refl

pub returns : goal.returns
unfolding is_line
returns c = rw (above c.args.c.weight _ _ inf32_is, c.if-w.false)

pub returns-then-w : goal.returns-then-w
unfolding is_line finite_point
returns-then-w c =
    let k = c.args.c in
    rw (c.all_between.ensures, minus_inf32_is, inf32_is, finite-is k.ctrl.x, finite-is k.ctrl.y, finite-is k.to.x, finite-is k.to.y, above k.weight _ _ inf32_is, c.if-w.true) (in_pairs (finite k.ctrl.x) (finite k.ctrl.y) (finite k.to.x) (finite k.to.y))
