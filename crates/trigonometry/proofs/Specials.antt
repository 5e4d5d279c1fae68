-- The zeros of both widths are the same number. Assumes nothing.
use mathlib.Core.Path.{◌≡◌, refl}
use lib.Ieee.{binary32, binary64, of_bits}

pub zero_is : of_bits binary32 0 ≡ of_bits binary64 0
unfolding of_bits
zero_is = refl
