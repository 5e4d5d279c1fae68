-- `ieee::narrow_by_pattern` meets its contract: the pattern that it makes is that of `narrow_of x` (`Narrowing.made`). Assumes nothing.
use Rattle.std.proofs.Common.{◌+◌, ◌*◌, ◌/◌, ◌^◌, T, sym, subst, arith}
use lib.Ieee.{binary64, fits, to_bits}
use Rattle.ieee.proofs.Narrowing.{Narrows, made}
use Rattle.ieee.proofs.narrow_by_pattern.Goals as goal
use Rattle.ieee.proofs.narrow_by_pattern.Goals.{After-rounded_pattern-p, Start}

held : (c : Start) → T (fits binary64 c.args.x)
held c = subst T (sym c.well_formed.0.1) tt

pub float_to_bits-bits : goal.float_to_bits-bits
float_to_bits-bits c = c.requires.number

pub rounded_pattern-p-requires : goal.rounded_pattern-p-requires
rounded_pattern-p-requires c = record { at_least = c.requires.at_least; below = c.requires.below }

pattern : (c : After-rounded_pattern-p) → Narrows c.args.x (to_bits binary64 c.args.x / 2 ^ 63 * 2 ^ 31 + c.rounded_pattern-p.result)
pattern c =
    let r = c.before.requires in
    made c.args.x c.rounded_pattern-p.result (held c.before) r.number r.at_least r.below c.rounded_pattern-p.ensures

pub overflow_mul-result : goal.overflow_mul-result
overflow_mul-result c = let w = (pattern c).0 in omega arith

pub overflow_add-result : goal.overflow_add-result
overflow_add-result c = let w = (pattern c).0 in omega arith

pub overflow_cast-result : goal.overflow_cast-result
overflow_cast-result c = let w = (pattern c).0 in omega arith

pub float_from_bits-result : goal.float_from_bits-result
float_from_bits-result c = (pattern c).1

pub returns : goal.returns
returns c = (pattern c).2
