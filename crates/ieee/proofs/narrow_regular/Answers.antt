-- `ieee::narrow_regular` meets its contract, by the exponent of a regular number. Assumes nothing.
use Rattle.std.proofs.Common.{T, sym, subst, arith}
use Rattle.ieee.proofs.Regular.{regular-number, regular-exponent}
use Rattle.ieee.proofs.narrow_regular.Goals as goal

pub narrow_by_pattern-requires : goal.narrow_by_pattern-requires
narrow_by_pattern-requires c =
    let e = regular-exponent c.args.x (subst T (sym c.well_formed.0.1) tt) c.requires in
    record { number = regular-number c.args.x c.requires; at_least = omega (arith, e.0); below = omega (arith, e.1) }
