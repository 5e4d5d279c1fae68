-- x where it is above 0, and else 0 - x, which is exact, is x without its sign. Assumes nothing.
use mathlib.Core.Path.{◌≡◌, refl, ap, ◌∙◌}
use mathlib.Core.Bool.{Bool, true, false, cond}
use Prim.Native.Nat.{ℕ, zero, suc, ◌+◌, ◌-◌, ◌*◌}
use native.Mathlib.Nat.{zero-mul}
use native.Mathlib.Omega.{arith}
use lib.Dec.{T, ltb, lt→ltb}
use lib.IntN.{ℤ}
use lib.Ieee.{Float, nan, inf, fin, binary32, of_bits, neg, add, sub, sum, lt, fits, round, up, down}
use lib.Lanes.{top}
use lib.Ieee.Fits.{up_pos, neg-fits}
use Rattle.ieee.specs.Basic.{abs_of}
use Rattle.rounding.proofs.Meets.{round_own}

abbrev opposite : Float → Float
opposite x = sub binary32 (of_bits binary32 0) x

-- a number of the format, with its fraction as 0 - x has it
own : (s : Bool) (m : ℕ) (e : ℤ) (n d : ℕ) → n ≡ m * up e → d ≡ down e → T (fits binary32 (fin s m e)) → round binary32 s n d ≡ fin s m e
own s m e n d p q h = ap (λ (x : ℕ). round binary32 s x d) p ∙ ap (λ (x : ℕ). round binary32 s (m * up e) x) q ∙ round_own binary32 s m e h

other_sign : (m : ℕ) (e : ℤ) → T (fits binary32 (fin true m e)) → T (fits binary32 (fin false m e))
unfolding neg
other_sign m e h = neg-fits binary32 (fin true m e) h

of_negative : (m : ℕ) (e : ℤ) → T (fits binary32 (fin true m e)) → opposite (fin true m e) ≡ fin false m e
unfolding sub add neg sum of_bits
of_negative m e h = own false m e (0 * down e + m * up e * 1) (1 * down e) (omega arith) (omega arith) (other_sign m e h)

of_zero : (e : ℤ) → T (fits binary32 (fin false zero e)) → opposite (fin false zero e) ≡ fin false zero e
unfolding sub add neg sum of_bits
of_zero e h =
    let no : ltb (0 * down e) (0 * up e * 1) ≡ false = rw (zero-mul (down e), zero-mul (up e)) in
    rw no (own false zero e (0 * down e - 0 * up e * 1) (1 * down e) (omega arith) (omega arith) h)

abbrev none : Float
none = of_bits binary32 0

above : (x : Float) → T (lt none x) → x ≡ abs_of x
unfolding abs_of of_bits lt
above nan t = refl
above (inf true) t = absurd t
above (inf false) t = refl
above (fin true m e) t = absurd t
above (fin false m e) t = refl

not_above : (x : Float) → T (fits binary32 x) → (T (lt none x) → T false) → opposite x ≡ abs_of x
unfolding abs_of sub add neg of_bits lt
not_above nan h t = refl
not_above (inf true) h t = refl
not_above (inf false) h t = absurd (t tt)
not_above (fin true m e) h t = of_negative m e h
not_above (fin false zero e) h t = of_zero e h
not_above (fin false (suc m) e) h t =
    let some = up_pos e in
    absurd (t (lt→ltb (0 * down e) (suc m * up e * 1) (omega arith)))

-- as a vector's lane has it
pub chosen : (x : Float) → T (fits binary32 x) → cond (top 31 (cond (lt none x) 0xffff_ffff 0)) x (opposite x) ≡ abs_of x
chosen x h = pick (lt none x) (above x) (not_above x h)
  where
    pick : (b : Bool) → (T b → x ≡ abs_of x) → ((T b → T false) → opposite x ≡ abs_of x) → cond (top 31 (cond b 0xffff_ffff 0)) x (opposite x) ≡ abs_of x
    pick true f g = f tt
    pick false f g = g (λ t. t)
