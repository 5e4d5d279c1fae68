-- Rust's + - * / on two `f32`, written ⊕ ⊖ ⊗ ⊘ with Rust's precedence: each rounds once, to binary32; and the
-- constants that several files name. Definitions only.
use Rattle.std.specs.Prelude.{Float}
use Rattle.std.specs.Float.{binary32}
use Rattle.std.specs.Float.Ieee.{of_bits, add, sub, mul, div}

infixl 65 ◌⊕◌
infixl 65 ◌⊖◌
infixl 70 ◌⊗◌
infixl 70 ◌⊘◌
abbrev pub ◌⊕◌ : Float → Float → Float
x ⊕ y = add binary32 x y

abbrev pub ◌⊖◌ : Float → Float → Float
x ⊖ y = sub binary32 x y

abbrev pub ◌⊗◌ : Float → Float → Float
x ⊗ y = mul binary32 x y

abbrev pub ◌⊘◌ : Float → Float → Float
x ⊘ y = div binary32 x y

abbrev pub zero : Float
zero = of_bits binary32 0  -- 0.0

abbrev pub quarter : Float
quarter = of_bits binary32 0x3e80_0000  -- 0.25

abbrev pub half : Float
half = of_bits binary32 0x3f00_0000  -- 0.5

abbrev pub one : Float
one = of_bits binary32 0x3f80_0000  -- 1.0

abbrev pub two : Float
two = of_bits binary32 0x4000_0000  -- 2.0

abbrev pub three : Float
three = of_bits binary32 0x4040_0000  -- 3.0

abbrev pub four : Float
four = of_bits binary32 0x4080_0000  -- 4.0
