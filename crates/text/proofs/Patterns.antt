-- Which patterns are a NaN's, at both formats. Assumes nothing.
use Prim.Native.Nat.{ℕ, ◌*◌, ◌%◌, ◌<◌}
use mathlib.Core.Path.{◌≡◌, refl, sym, ◌∙◌, subst}
use borrow.Author.Tests.{lt-ltb}
use lib.Dec.{T}
use lib.Ieee.{Float, nan, inf, fin, Format, of_bits, is_nan, ones, hid, top}
use lib.Ieee.Bits.{nan_bits_is, nan_bits_above}

nan_alone : (x : Float) → T (is_nan x) → x ≡ nan
unfolding is_nan
nan_alone nan t = refl
nan_alone (inf s) t = absurd t
nan_alone (fin s m e) t = absurd t

pub nan-above : (f : Format) (n : ℕ) → ones f * hid f < n % top f → of_bits f n ≡ nan
nan-above f n h = nan_alone (of_bits f n) (subst T (sym (sym (nan_bits_is f n) ∙ nan_bits_above f n ∙ lt-ltb _ _ h)) tt)
