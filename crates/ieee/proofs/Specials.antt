-- The NaNs and the infinities, as code makes them. Assumes nothing.
use mathlib.Core.Path.{◌≡◌, refl}
use mathlib.Core.Bool.{true, false}
use lib.Ieee.{nan, inf, binary32, binary64, of_bits, div, neg}

pub nan32_is : div binary32 (of_bits binary32 0) (of_bits binary32 0) ≡ nan
unfolding div of_bits
nan32_is = refl

pub inf32_is : div binary32 (of_bits binary32 0x3f80_0000) (of_bits binary32 0) ≡ inf false
unfolding div of_bits
inf32_is = refl

pub minus_inf32_is : div binary32 (neg (of_bits binary32 0x3f80_0000)) (of_bits binary32 0) ≡ inf true
unfolding div neg of_bits
minus_inf32_is = refl

pub nan64_is : div binary64 (of_bits binary64 0) (of_bits binary64 0) ≡ nan
unfolding div of_bits
nan64_is = refl

pub inf64_is : div binary64 (of_bits binary64 0x3ff0_0000_0000_0000) (of_bits binary64 0) ≡ inf false
unfolding div of_bits
inf64_is = refl
