-- The natural logarithm of a finite number above 0. The steps are `f64`, each rounded once, in the order written
-- here. Definitions only.
use Rattle.std.specs.Prelude.{false, ℤ, pos, ◌+ℤ◌, Float, if◌then◌else◌}
use Rattle.std.specs.Float.{nan, inf, fin, binary64}
use Rattle.std.specs.Float.Ieee.{le, of_int, minus, size}
use Rattle.ieee.specs.Binary64.{◌⊕◌, ◌⊖◌, ◌⊗◌, ◌⊘◌, one, two}
use Rattle.series.specs.Coefficients.{H, odd_reciprocal}
use Rattle.exponential.specs.Constants.{one_and_half, ln2}

-- u = f·2^e with 1 ≤ f < 2: u is m·2^d, and m has `size m` binary digits
unfoldable pub fraction_of : Float → Float
fraction_of nan = nan
fraction_of (inf s) = nan
fraction_of (fin s m d) = fin false m (minus 1 (size m))

unfoldable pub exponent_of : Float → ℤ
exponent_of nan = pos 0
exponent_of (inf s) = pos 0
exponent_of (fin s m d) = d +ℤ minus (size m) 1

-- e·ln 2 + ln f, of which ln f is 2·(s + s³/3 + s⁵/5 + ..) with s = (f - 1)/(f + 1): twelve terms of it are summed
unfoldable pub ln_at : Float → Float → Float
ln_at f e =
    let s = (f ⊖ one) ⊘ (f ⊕ one) in
    let z = s ⊗ s in
    e ⊗ ln2 ⊕ (two ⊗ s) ⊗ H odd_reciprocal z 11

-- if f ≥ 1.5, f is halved and e is one more
unfoldable pub ln_of : Float → Float
ln_of u =
    let f = fraction_of u in
    let e = exponent_of u in
    if le one_and_half f then ln_at (f ⊘ two) (of_int binary64 (e +ℤ pos 1)) else ln_at f (of_int binary64 e)
