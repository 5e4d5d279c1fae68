-- Horner's scheme over any format and any length: of one coefficient, of one more in front, and of none. Assumes nothing.
use mathlib.Core.Path.{◌≡◌, refl}
use mathlib.Core.List.{List, [], ◌∷◌}
use Prim.Native.Nat.{◌<◌}
use native.Mathlib.Omega.{arith}
use lib.ListN.{length}
use lib.Ieee.{Float, Format, binary64, of_bits, add, mul}
use Rattle.series.specs.Horner.{horner_of}

pub horner_one : (f : Format) (c z : Float) → c ≡ horner_of f (c ∷ []) z
unfolding horner_of
horner_one f c z = refl

pub horner_more : (f : Format) (c z : Float) (taken : List Float) → 0 < length taken → add f (mul f (horner_of f taken z) z) c ≡ horner_of f (c ∷ taken) z
unfolding horner_of
horner_more f c z [] h = absurd (omega arith)
horner_more f c z (a ∷ taken) h = refl

pub horner_none : (cs : List Float) (z : Float) → length cs ≡ 0 → of_bits binary64 0 ≡ horner_of binary64 cs z
unfolding horner_of of_bits
horner_none [] z h = refl
horner_none (c ∷ cs) z h = absurd (omega arith)
