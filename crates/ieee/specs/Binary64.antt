-- Rust's + - * / on two `f64`, written ⊕ ⊖ ⊗ ⊘ with Rust's precedence: each rounds once, to binary64; and the
-- constants that several files name. Definitions only.
use Rattle.std.specs.Prelude.{Float}
use Rattle.std.specs.Float.{binary64}
use Rattle.std.specs.Float.Ieee.{of_bits, add, sub, mul, div}

infixl 65 ◌⊕◌
infixl 65 ◌⊖◌
infixl 70 ◌⊗◌
infixl 70 ◌⊘◌
abbrev pub ◌⊕◌ : Float → Float → Float
x ⊕ y = add binary64 x y

abbrev pub ◌⊖◌ : Float → Float → Float
x ⊖ y = sub binary64 x y

abbrev pub ◌⊗◌ : Float → Float → Float
x ⊗ y = mul binary64 x y

abbrev pub ◌⊘◌ : Float → Float → Float
x ⊘ y = div binary64 x y

abbrev pub zero : Float
zero = of_bits binary64 0  -- 0.0

abbrev pub half : Float
half = of_bits binary64 0x3fe0_0000_0000_0000  -- 0.5

abbrev pub one : Float
one = of_bits binary64 0x3ff0_0000_0000_0000  -- 1.0

abbrev pub two : Float
two = of_bits binary64 0x4000_0000_0000_0000  -- 2.0

abbrev pub four : Float
four = of_bits binary64 0x4010_0000_0000_0000  -- 4.0
