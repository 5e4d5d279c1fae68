use mathlib.Core.Path.{sym, subst}
use lib.Dec.{T}
use Rattle.geometry.specs.Point.{abs_point}
use Rattle.geometry.proofs.Magnitude.{chosen}
use Rattle.geometry.proofs.Point.abs.Goals as goal

pub returns : goal.returns
unfolding abs_point
returns c =
    let p = c.args.self in
    let fields = c.well_formed.0.1.1 in
    let x = chosen p.x (subst T (sym fields.0.1) tt) in
    let y = chosen p.y (subst T (sym fields.1.0.1) tt) in
    λ i. record { x = x i; y = y i }
