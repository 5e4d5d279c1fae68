-- A number, negated where it is below 0, is regular where it is: only of a zero does it differ from the absolute value, by the sign. Assumes nothing.
use mathlib.Core.Path.{◌≡◌, refl, sym, ap}
use mathlib.Core.Bool.{Bool, true, false, cond, ◌&&◌}
use mathlib.Core.List.{List, [], ◌∷◌, map}
use Prim.Native.Nat.{ℕ, zero, suc, ◌+◌, ◌*◌, ◌^◌}
use native.Mathlib.Nat.{zero-mul}
use Rattle.std.proofs.Common.{zero-le}
use native.Mathlib.Omega.{arith}
use borrow.Author.Tests.{ltb-false}
use Rattle.std.proofs.lemmas.Bool.{le-ltb}
use Rattle.std.proofs.Math.Nat.{mul-pos, zero-lt-suc}
use lib.Dec.{ltb}
use lib.IntN.{ℤ, pos}
use lib.Ieee.{Float, nan, inf, fin, binary64, of_bits, lt, neg, up, down}
use lib.Ieee.Fits.{up_pos}
use lib.Lanes.{zip2, sel_l, top}
use lib.ListN.{length, replicate}
use mir.Syntax.{w64}
use mir.Val.{hbits}
use Rattle.std.specs.List.{list_all}
use Rattle.lanes.proofs.Masks.{mask, first_64}
use Rattle.ieee.specs.Basic.{abs_of}
use Rattle.ieee.specs.Narrow.{regular}

abbrev zero64 : Float
zero64 = of_bits binary64 0

abbrev turned : Float → Float
turned x = cond (lt x zero64) (neg x) x

-- the same in vectors
pub all_turned : (xs : List Float) (n : ℕ) → length xs ≡ n → sel_l (map (top (hbits w64)) (zip2 (λ a b. mask w64 (lt a b)) xs (replicate n zero64))) (map neg xs) xs ≡ map turned xs
all_turned [] n e = refl
all_turned (x ∷ xs) zero e = absurd (omega (arith, e))
all_turned (x ∷ xs) (suc n) e = rw (first_64 (lt x zero64), all_turned xs n (omega (arith, e)))

abbrev pub within : Float → Bool
within a = lt (of_bits binary64 0x3810_0000_0000_0000) a && lt a (of_bits binary64 0x47f0_0000_0000_0000)

-- of the size of a number the sign is off, but where it is 0, and that is below the first bound
negative : (m : ℕ) (e : ℤ) (b : Bool) → ltb 0 (m * up e * 1 + 0 * down e) ≡ b → within (cond b (fin false m e) (fin true m e)) ≡ within (fin false m e)
negative m e true h = refl
negative zero e false h = unfold lt of_bits in ap (λ (t : Bool). t && lt (fin false zero e) (fin false 1 (pos 128))) (sym (le-ltb (1 * down e) (0 * up e * 2 ^ 126) (rw (zero-mul (up e)) zero-le)))
negative (suc m) e false h = absurd (omega (arith, ltb-false 0 (suc m * up e * 1 + 0 * down e) h, mul-pos (zero-lt-suc m) (up_pos e)))

pub within_turned : (x : Float) → within (turned x) ≡ regular x
unfolding lt neg abs_of regular of_bits
within_turned nan = refl
within_turned (inf true) = refl
within_turned (inf false) = refl
within_turned (fin false m e) = rw (le-ltb (m * up e * 1) (0 * down e) (omega arith))
within_turned (fin true m e) = negative m e (ltb 0 (m * up e * 1 + 0 * down e)) refl

pub all_within : (xs : List Float) → list_all within (map turned xs) ≡ list_all regular xs
all_within [] = refl
all_within (x ∷ xs) = rw (within_turned x, all_within xs)
