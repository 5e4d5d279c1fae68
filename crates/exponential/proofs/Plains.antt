-- Where exp and pow have no special case, each of their tests says no. Assumes nothing.
use mathlib.Core.Path.{◌≡◌, refl, subst}
use mathlib.Core.Bool.{Bool, true, false, ◌&&◌}
use mathlib.Core.List.{List}
use lib.Dec.{T, not_T}
use lib.Ieee.Bits.{is_false}
use lib.Ieee.{Float, nan, inf, fin, lt, eq, ne}
use lib.Ieee.Compare.{differs_from_itself}
use lib.Ieee.Positive.{positive}
use lib.Lanes.{zip2}
use Rattle.std.proofs.lemmas.Float.{lt_irrefl, lt_trans, eq-not_lt, eq_flip, T_from_true}
use Rattle.std.proofs.lemmas.List.Sums.{AllPass-from_list_all}
use Rattle.std.specs.Float.{float_is_infinite}
use Rattle.std.specs.List.{All, list_all}
use Rattle.ieee.proofs.Tests.{both}
use Rattle.lanes.proofs.Places.{all_and, all_pairs, zip2-agree}
use Rattle.exponential.specs.Constants.{hundred, lowest}
use Rattle.ieee.specs.Binary32.{zero, one}
use Rattle.exponential.specs.Power.{main_of, pow_of}
use Rattle.exponential.specs.Plain.{IsInRange, moderate, plain_base, plain_exponent}
use Rattle.exponential.proofs.Rules.{above_zero}

-- ---- what an order says

not-back : (x y : Float) → T (lt x y) → lt y x ≡ false
not-back x y h = is_false (lt y x) (not_T (lt y x) (λ g. lt_irrefl x (lt_trans x y x h g)))

above_nothing : (x : Float) → T (lt x nan) → ⊥
unfolding lt
above_nothing nan h = h
above_nothing (inf s) h = h
above_nothing (fin s m e) h = h

pub positive_number : (x : Float) → T (positive x) → ne x x ≡ false
positive_number x h = is_false (ne x x) (not_T (ne x x) (λ t. subst (λ (y : Float). T (positive y)) (differs_from_itself x t) h))

number : (low x : Float) → T (lt low x) → ne x x ≡ false
number low x h = is_false (ne x x) (not_T (ne x x) (λ t. above_nothing low (subst (λ (y : Float). T (lt low y)) (differs_from_itself x t) h)))

within_infinities : (low x : Float) → T (lt low x) → T (lt x (inf false)) → float_is_infinite x ≡ false
unfolding lt float_is_infinite
within_infinities low nan a b = refl
within_infinities nan (inf s) a b = absurd a
within_infinities (inf true) (inf true) a b = absurd a
within_infinities (inf false) (inf true) a b = absurd a
within_infinities (fin s m e) (inf true) a b = absurd a
within_infinities (inf s) (inf false) a b = absurd b
within_infinities (fin s m e) (inf false) a b = absurd b
within_infinities low (fin s m e) a b = refl

not-equal : (x y : Float) → T (ne x y) → eq x y ≡ false
unfolding ne
not-equal x y h = is_false (eq x y) h

-- ---- the tests

moderate-is : (t : Float) → moderate t ≡ true → IsInRange t
unfolding moderate
moderate-is t h =
    let each = both (lt lowest t) (lt t hundred) h in
    let low = T_from_true (lt lowest t) each.0 in
    (number lowest t low, not-back t hundred (T_from_true (lt t hundred) each.1), not-back lowest t low)

base-is : (b : Float) → plain_base b ≡ true → (ne b b ≡ false) × (lt b zero ≡ false) × (eq b one ≡ false) × (eq b zero ≡ false) × (float_is_infinite b ≡ false)
unfolding plain_base
base-is b h =
    let base = both (lt zero b && lt b (inf false)) (ne b one) h in
    let within = both (lt zero b) (lt b (inf false)) base.0 in
    let above = T_from_true (lt zero b) within.0 in
    let no_zero : eq b zero ≡ false = is_false (eq b zero) (not_T (eq b zero) (λ t. eq-not_lt zero b (eq_flip b zero t) above)) in
    (number zero b above, not-back zero b above, not-equal b one (T_from_true (ne b one) base.1), no_zero, within_infinities zero b above (T_from_true (lt b (inf false)) within.1))

exponent-is : (y : Float) → plain_exponent y ≡ true → (ne y y ≡ false) × (eq y zero ≡ false) × (float_is_infinite y ≡ false)
unfolding plain_exponent
exponent-is y h =
    let exponent = both (lt (inf true) y && lt y (inf false)) (ne y zero) h in
    let within = both (lt (inf true) y) (lt y (inf false)) exponent.0 in
    let above = T_from_true (lt (inf true) y) within.0 in
    (number (inf true) y above, not-equal y zero (T_from_true (ne y zero) exponent.1), within_infinities (inf true) y above (T_from_true (lt y (inf false)) within.1))

base_above : (b : Float) → plain_base b ≡ true → T (positive b)
base_above b h = let (n, l, o, z, i) = base-is b h in above_zero b n l z i

main-is : (b y : Float) → (plain_base b && plain_exponent y) ≡ true → pow_of b y ≡ main_of b y
unfolding pow_of
main-is b y h =
    let each = both (plain_base b) (plain_exponent y) h in
    let (bn, bl, bo, bz, bi) = base-is b each.0 in
    let (yn, yz, yi) = exponent-is y each.1 in
    rw (bn, yn, bl, bo, yz, bz, bi, yi)

-- ---- of all

pub all_reduced : (ts : List Float) → list_all moderate ts ≡ true → All IsInRange ts
all_reduced ts e k d l = moderate-is _ (AllPass-from_list_all moderate ts e k d l)

pub all_bases : (xs : List Float) → (list_all (λ (x : Float). lt zero x && lt x (inf false)) xs && list_all (λ (x : Float). ne x one) xs) ≡ list_all plain_base xs
unfolding plain_base
all_bases = all_and (λ (x : Float). lt zero x && lt x (inf false)) (λ (x : Float). ne x one)

pub all_exponents : (ys : List Float) → (list_all (λ (y : Float). lt (inf true) y && lt y (inf false)) ys && list_all (λ (y : Float). ne y zero) ys) ≡ list_all plain_exponent ys
unfolding plain_exponent
all_exponents = all_and (λ (y : Float). lt (inf true) y && lt y (inf false)) (λ (y : Float). ne y zero)

module _ (bs ys : List Float) (e : (list_all plain_base bs && list_all plain_exponent ys) ≡ true) where
  pub all_above : All (λ (b : Float). T (positive b)) bs
  all_above k d l = base_above _ (AllPass-from_list_all plain_base bs (both _ _ e).0 k d l)

  pub all_numbers : All (λ (y : Float). ne y y ≡ false) ys
  all_numbers k d l = (exponent-is _ (AllPass-from_list_all plain_exponent ys (both _ _ e).1 k d l)).0

  pub all_main : zip2 pow_of bs ys ≡ zip2 main_of bs ys
  all_main =
      let plain : Float → Float → Bool = λ b y. plain_base b && plain_exponent y in
      let each = both _ _ e in
      zip2-agree plain pow_of main_of main-is bs ys (all_pairs plain_base plain_exponent plain (λ b y d f. rw (d, f)) bs ys each.0 each.1)
