-- The simple operations, by the comparisons that the code makes and by the pattern. Assumes nothing.
use Rattle.std.proofs.Common.{◌≡◌, ℕ, zero, suc, ◌+◌, ◌*◌, ◌%◌, ◌<◌, Bool, true, false, cond, not, ◌&&◌, T, ℤ, sym, refl, ap, ◌∙◌, subst, mod-eq_of_lt, zero-add, arith}
use native.Mathlib.Nat.{add-mod_left}
use lib.Ieee.{Float, Format, nan, inf, fin, lt, ne, fits, is_nan, of_bits, to_bits, nan_bits, top, hid, ones}
use lib.Ieee.Bits.{to_bits-lt}
use lib.Ieee.Compare.{differs_from_itself}
use lib.Ieee.Fits.{inf-fits}
use lib.Ieee.Scale.{finite}
use Rattle.std.specs.Float.{float_with_sign}
use Rattle.ieee.specs.Basic.{abs_of}
use Rattle.ieee.proofs.Units.{bits-inf, no_nan-bits, read_back, self_equal}

-- ---- the library's `abs` clears the sign as `abs_of` does
pub with_plus : (x : Float) → float_with_sign false x ≡ abs_of x
unfolding float_with_sign abs_of
with_plus nan = refl
with_plus (inf s) = refl
with_plus (fin s m e) = refl

-- ---- between the infinities
pub finite-is : (x : Float) → (lt (inf true) x && lt x (inf false)) ≡ finite x
unfolding lt
finite-is nan = refl
finite-is (inf true) = refl
finite-is (inf false) = refl
finite-is (fin s m e) = refl

-- ---- the sign cleared: what is left of the pattern
sign_off : (s : Bool) (t c : ℕ) → t + c < 2 * t → c ≡ (cond s t 0 + c) % t
sign_off true t c h = sym (add-mod_left t c ∙ mod-eq_of_lt (omega arith))
sign_off false t c h = sym (ap (λ (x : ℕ). x % t) (zero-add c) ∙ mod-eq_of_lt (omega arith))

either_sign : (f : Format) (s t : Bool) (m : ℕ) (e : ℤ) → T (fits f (fin s m e)) → T (fits f (fin t m e))
unfolding fits
either_sign f s t zero e h = h
either_sign f s t (suc m) e h = h

abs_fits : (f : Format) (x : Float) → T (fits f x) → T (fits f (abs_of x))
unfolding abs_of
abs_fits f nan h = h
abs_fits f (inf s) h = inf-fits f false
abs_fits f (fin s m e) h = either_sign f s false m e h

-- the pattern of a number, the sign set apart
number-bits : (f : Format) (s : Bool) (m : ℕ) (e : ℤ) → to_bits f (fin s m e) ≡ cond s (top f) 0 + to_bits f (fin false m e)
unfolding to_bits
number-bits f s m e = omega arith

abs_bits : (f : Format) (x : Float) → T (fits f x) → T (not (is_nan x)) → to_bits f (abs_of x) ≡ to_bits f x % top f
unfolding abs_of is_nan
abs_bits f nan h n = absurd n
abs_bits f (inf s) h n = bits-inf f false ∙ zero-add (ones f * hid f) ∙ sign_off s (top f) (ones f * hid f) (subst (λ (b : ℕ). b < 2 * top f) (bits-inf f true) (to_bits-lt f (inf true) (inf-fits f true))) ∙ ap (λ (b : ℕ). b % top f) (sym (bits-inf f s))
abs_bits f (fin s m e) h n =
    sign_off s (top f) (to_bits f (fin false m e)) (subst (λ (b : ℕ). b < 2 * top f) (number-bits f true m e) (to_bits-lt f (fin true m e) (either_sign f s true m e h)))
    ∙ ap (λ (b : ℕ). b % top f) (sym (number-bits f s m e))

abs_no_nan : (x : Float) → T (not (is_nan x)) → T (not (is_nan (abs_of x)))
unfolding abs_of is_nan
abs_no_nan nan n = n
abs_no_nan (inf s) n = tt
abs_no_nan (fin s m e) n = tt

-- what the function needs at either format
module _ (f : Format) (x : Float) (h : T (fits f x)) (e : ne x x ≡ false) where
  pub abs_pattern : T (not (nan_bits f (to_bits f x % top f)))
  abs_pattern = no_nan-bits f (abs_of x) (to_bits f x % top f) (abs_fits f x h) (abs_no_nan x (self_equal x e)) (abs_bits f x h (self_equal x e))

  pub abs_is : of_bits f (to_bits f x % top f) ≡ abs_of x
  abs_is = read_back f (abs_of x) (to_bits f x % top f) (abs_fits f x h) (abs_bits f x h (self_equal x e))

pub abs_nan : (x : Float) → ne x x ≡ true → x ≡ abs_of x
abs_nan x e = let n = differs_from_itself x (subst T (sym e) tt) in n ∙ sym (ap abs_of n ∙ unfold abs_of in refl)
