-- Where exp and pow have no special case, and the last steps of ln and exp. Cited by the contracts of inner
-- functions. Definitions only.
use Rattle.std.specs.Prelude.{◌≡◌, Bool, true, false, ◌&&◌, Float}
use Rattle.std.specs.Float.{inf}
use Rattle.std.specs.Float.Ieee.{lt, ne}
use Rattle.ieee.specs.Binary32.{zero, one}
use Rattle.ieee.specs.Binary64.{◌⊕◌, ◌⊗◌, two}
use Rattle.series.specs.Coefficients.{H, odd_reciprocal, factorial_reciprocal}
use Rattle.exponential.specs.Constants.{ln2, hundred, lowest}
use Rattle.exponential.specs.Logarithm.{ln_of}

-- neither a NaN nor so far from 0 that exp is 0 or infinite
abbrev pub IsInRange : Float → Type 0
IsInRange t = (ne t t ≡ false) × (lt hundred t ≡ false) × (lt t lowest ≡ false)

-- a test that only such numbers pass
unfoldable pub moderate : Float → Bool
moderate t = lt lowest t && lt t hundred

-- ln from s, e and the value h of the series
abbrev pub log_of : Float → Float → Float → Float
log_of s e h = e ⊗ ln2 ⊕ (two ⊗ s) ⊗ h

unfoldable pub summed_of : Float → Float → Float
summed_of s e = log_of s e (H odd_reciprocal (s ⊗ s) 11)

-- s and e are what the logarithm of u is worked out from
abbrev pub SplitAt : Float → Float → Float → Type 0
SplitAt s e u = summed_of s e ≡ ln_of u

-- exp of r and of a whole number of times ln 2, of which `power` is the power of 2
unfoldable pub scaled_of : Float → Float → Float
scaled_of r power = H factorial_reciprocal r 13 ⊗ power

-- of these none of pow's rules but the last applies
unfoldable pub plain_base : Float → Bool
plain_base b = (lt zero b && lt b (inf false)) && ne b one

unfoldable pub plain_exponent : Float → Bool
plain_exponent y = (lt (inf true) y && lt y (inf false)) && ne y zero
