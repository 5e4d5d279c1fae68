-- A mask has a lane of ones where a test holds and of zeros where not. Whether all hold, as the code asks it: the lanes' conjunction, as a signed number, is below 0.
use mathlib.Core.Path.{◌≡◌, refl, sym, ap, ◌∙◌}
use mathlib.Core.Bool.{Bool, true, false, cond, ◌&&◌}
use mathlib.Core.List.{List, [], ◌∷◌, map}
use Prim.Native.Nat.{ℕ, zero, suc, ◌-◌, ◌^◌}
use native.Mathlib.Omega.{arith}
use lib.Bits.{bit_and}
use lib.IntN.{pos}
use lib.Lanes.{zip2, fold_l, sel_l, top}
use lib.ListN.{length, replicate}
use lib.Signed.{lt_z}
use mir.Syntax.{Width, w32, w64}
use mir.Val.{bits, hbits, to_z}
use Rattle.std.specs.List.{list_all}
use Rattle.std.proofs.lemmas.Simd.{zip2_splat, zip2_splat_left, zip2_of_maps}

and_true : (a : Bool) → (a && true) ≡ a
and_true true = refl
and_true false = refl

and_assoc : (a b c : Bool) → ((a && b) && c) ≡ (a && (b && c))
and_assoc true b c = refl
and_assoc false b c = refl

module _ (w : Width) where
  -- a lane
  abbrev pub mask : Bool → ℕ
  mask b = cond b (2 ^ bits w - 1) 0

  abbrev pub conjunction : List ℕ → ℕ → Bool
  conjunction ms n = lt_z (to_z w (fold_l bit_and (2 ^ bits w - 1) (sel_l (map (top (hbits w)) ms) (replicate n (2 ^ bits w - 1)) (replicate n 0)))) (pos 0)

  module _ (both : (a b : Bool) → bit_and (mask a) (mask b) ≡ mask (a && b)) (first : (b : Bool) → top (hbits w) (mask b) ≡ b) (below : (b : Bool) → lt_z (to_z w (mask b)) (pos 0) ≡ b) {X : Type 0} (f : X → ℕ) (p : X → Bool) (k : (x : X) → f x ≡ mask (p x)) where
    folded : (a : Bool) (xs : List X) (n : ℕ) → length xs ≡ n → fold_l bit_and (mask a) (sel_l (map (top (hbits w)) (map f xs)) (replicate n (2 ^ bits w - 1)) (replicate n 0)) ≡ mask (a && list_all p xs)
    folded a [] n e = ap mask (sym (and_true a))
    folded a (x ∷ xs) zero e = absurd (omega (arith, e))
    folded a (x ∷ xs) (suc n) e =
        let rest = λ (m : ℕ). fold_l bit_and m (sel_l (map (top (hbits w)) (map f xs)) (replicate n (2 ^ bits w - 1)) (replicate n 0)) in
        ap (λ (b : Bool). rest (bit_and (mask a) (mask b))) (ap (top (hbits w)) (k x) ∙ first (p x)) ∙ ap rest (both a (p x)) ∙ folded (a && p x) xs n (omega (arith, e)) ∙ ap mask (and_assoc a (p x) (list_all p xs))

    pub all_of : (xs : List X) (n : ℕ) → length xs ≡ n → conjunction (map f xs) n ≡ list_all p xs
    all_of xs n e = ap (λ (m : ℕ). lt_z (to_z w m) (pos 0)) (folded true xs n e) ∙ below (list_all p xs)

-- ---- at 32 and at 64 bits

both_32 : (a b : Bool) → bit_and (mask w32 a) (mask w32 b) ≡ mask w32 (a && b)
both_32 true true = refl
both_32 true false = refl
both_32 false true = refl
both_32 false false = refl

pub first_32 : (b : Bool) → top (hbits w32) (mask w32 b) ≡ b
first_32 true = refl
first_32 false = refl

-- of two masks
pub both_first : (a b : Bool) → top (hbits w32) (bit_and (mask w32 a) (mask w32 b)) ≡ cond b a false
both_first true true = refl
both_first true false = refl
both_first false true = refl
both_first false false = refl

below_32 : (b : Bool) → lt_z (to_z w32 (mask w32 b)) (pos 0) ≡ b
below_32 true = refl
below_32 false = refl

both_64 : (a b : Bool) → bit_and (mask w64 a) (mask w64 b) ≡ mask w64 (a && b)
both_64 true true = refl
both_64 true false = refl
both_64 false true = refl
both_64 false false = refl

pub first_64 : (b : Bool) → top (hbits w64) (mask w64 b) ≡ b
first_64 true = refl
first_64 false = refl

below_64 : (b : Bool) → lt_z (to_z w64 (mask w64 b)) (pos 0) ≡ b
below_64 true = refl
below_64 false = refl

-- a test of each with a number before and one with a number behind, both on
module _ {X : Type 0} (p q : X → X → Bool) (low high : X) (xs : List X) (n : ℕ) (e : length xs ≡ n) where
  pub between_32 : conjunction w32 (zip2 bit_and (zip2 (λ a b. mask w32 (p a b)) (replicate n low) xs) (zip2 (λ a b. mask w32 (q a b)) xs (replicate n high))) n ≡ list_all (λ (x : X). p low x && q x high) xs
  between_32 =
      let l = zip2_splat_left (λ a b. mask w32 (p a b)) low n xs e in
      let h = zip2_splat (λ a b. mask w32 (q a b)) xs n high e in
      ap (λ (ms : List ℕ). conjunction w32 ms n) (zip2_of_maps bit_and (λ (x : X). mask w32 (p low x)) (λ (x : X). mask w32 (q x high)) xs l h)
      ∙ all_of w32 both_32 first_32 below_32 (λ (x : X). bit_and (mask w32 (p low x)) (mask w32 (q x high))) (λ (x : X). p low x && q x high) (λ x. both_32 (p low x) (q x high)) xs n e

  pub between_64 : conjunction w64 (zip2 bit_and (zip2 (λ a b. mask w64 (p a b)) (replicate n low) xs) (zip2 (λ a b. mask w64 (q a b)) xs (replicate n high))) n ≡ list_all (λ (x : X). p low x && q x high) xs
  between_64 =
      let l = zip2_splat_left (λ a b. mask w64 (p a b)) low n xs e in
      let h = zip2_splat (λ a b. mask w64 (q a b)) xs n high e in
      ap (λ (ms : List ℕ). conjunction w64 ms n) (zip2_of_maps bit_and (λ (x : X). mask w64 (p low x)) (λ (x : X). mask w64 (q x high)) xs l h)
      ∙ all_of w64 both_64 first_64 below_64 (λ (x : X). bit_and (mask w64 (p low x)) (mask w64 (q x high))) (λ (x : X). p low x && q x high) (λ x. both_64 (p low x) (q x high)) xs n e

  pub each_32 : conjunction w32 (zip2 (λ a b. mask w32 (q a b)) xs (replicate n high)) n ≡ list_all (λ (x : X). q x high) xs
  each_32 =
      ap (λ (ms : List ℕ). conjunction w32 ms n) (zip2_splat (λ a b. mask w32 (q a b)) xs n high e)
      ∙ all_of w32 both_32 first_32 below_32 (λ (x : X). mask w32 (q x high)) (λ (x : X). q x high) (λ x. refl) xs n e
