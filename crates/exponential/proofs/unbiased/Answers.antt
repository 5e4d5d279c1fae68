use mathlib.Core.Path.{◌≡◌, refl, sym, ap, subst, ◌∙◌}
use mathlib.Core.Bool.{false, not}
use Prim.Native.Nat.{ℕ, ◌+◌, ◌^◌, ◌<◌}
use native.Mathlib.Omega.{arith}
use lib.Dec.{T}
use lib.IntN.{pos}
use lib.Ieee.{binary64, of_bits, of_int, is_nan}
use lib.Ieee.Bits.{of_bits-to_bits, nan_bits_is}
use lib.Ieee.Exact.{HasValue}
use lib.Ieee.Fits.{of_int-fits}
use Rattle.exponential.proofs.Integers.{minus_same}
use Rattle.exponential.proofs.Wholes.{whole_value, whole-bits, whole-no_nan, sub-whole}
use Rattle.exponential.proofs.unbiased.Goals as goal

-- the number with this pattern
raised : (b : ℕ) → b < 4096 → of_bits binary64 (0x4330_0000_0000_0000 + b) ≡ of_int binary64 (pos (2 ^ 52 + b))
raised b h = ap (of_bits binary64) (sym (whole-bits binary64 (2 ^ 52 + b) (omega arith) (omega arith) ∙ omega arith)) ∙ of_bits-to_bits binary64 (of_int binary64 (pos (2 ^ 52 + b))) (of_int-fits binary64 (pos (2 ^ 52 + b)))

offset : HasValue (of_bits binary64 4841369599423284223) false (2 ^ 52 + 1023) 1
unfolding of_bits
offset = (refl, refl)

pub float_from_bits-result : goal.float_from_bits-result
float_from_bits-result c =
    let b = c.args.b in
    subst T (sym (ap not (nan_bits_is binary64 (0x4330_0000_0000_0000 + b) ∙ ap is_nan (raised b c.requires)))) (whole-no_nan binary64 (2 ^ 52 + b))

pub returns : goal.returns
returns c =
    let b = c.args.b in
    rw (raised b c.requires) (sub-whole binary64 (of_int binary64 (pos (2 ^ 52 + b))) (of_bits binary64 4841369599423284223) (2 ^ 52 + b) (2 ^ 52 + 1023) (whole_value binary64 (2 ^ 52 + b) (omega arith)) offset ∙ ap (of_int binary64) (minus_same (2 ^ 52 + b) (2 ^ 52 + 1023) b 1023 (omega arith)))
