-- The numbers in the rules for ln and exp that these rules alone name, by their bit patterns. Definitions only.
use Rattle.std.specs.Prelude.{Float}
use Rattle.std.specs.Float.{binary64}
use Rattle.std.specs.Float.Ieee.{of_bits, neg}

-- 1.5, 100, -110
abbrev pub one_and_half : Float
one_and_half = of_bits binary64 0x3ff8_0000_0000_0000

abbrev pub hundred : Float
hundred = of_bits binary64 0x4059_0000_0000_0000

abbrev pub lowest : Float
lowest = neg (of_bits binary64 0x405b_8000_0000_0000)

-- 0.6931471805599453, the `f64` nearest to the natural logarithm of 2
abbrev pub ln2 : Float
ln2 = of_bits binary64 0x3fe6_2e42_fefa_39ef
