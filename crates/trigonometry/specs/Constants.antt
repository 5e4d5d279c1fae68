-- The numbers in the rules for angles that these rules alone name, by their bit patterns; std's `pi binary64` is the
-- `f64` nearest to π. Definitions only.
use Rattle.std.specs.Prelude.{Float}
use Rattle.std.specs.Float.{binary64}
use Rattle.std.specs.Float.Ieee.{of_bits}

-- 8, 16
abbrev pub eight : Float
eight = of_bits binary64 0x4020_0000_0000_0000

abbrev pub sixteen : Float
sixteen = of_bits binary64 0x4030_0000_0000_0000
