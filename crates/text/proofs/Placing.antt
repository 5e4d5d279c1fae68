-- A text written into a buffer, and how many digits a number takes. Assumes nothing.
use Prim.Native.Nat.{ℕ, zero, suc, ◌+◌, ◌-◌, ◌/◌, ◌^◌, ◌≤◌, ◌<◌}
use Rattle.std.specs.Prelude.{Option, Some, None}
use mathlib.Core.Path.{◌≡◌, refl, sym, subst, ap, ap₂, ◌∙◌}
use mathlib.Core.Bool.{Bool, true, false, cond}
use mathlib.Core.List.{List, ◌++◌}
use native.Mathlib.Nat.{le_antisymm, lt_of_lt_of_le, pow-le-pow_right}
use native.Mathlib.Omega.{arith}
use borrow.Author.Tests.{le-leb, lt-leb, ltb-true, ltb-false}
use lib.Dec.{ltb, lit<, lit≤}
use lib.ListN.{length, take, drop, length-append}
use lib.Seq.{paste, take-length, take_at}
use Rattle.io.specs.Digits.{last_digits, IsDigitCount}
use Rattle.text.specs.Numbers.{nan_text}
use Rattle.text.specs.Written.{Wrote, put_text, past_text, places, decimal_text, hexadecimal_text, float_text}

module _ (l : List ℕ) (at : ℕ) (t : List ℕ) where
  pub no_room : length l < at + length t → Wrote l at t at l
  unfolding put_text past_text
  no_room h = record { past = rw (lt-leb _ _ h); held = rw (lt-leb _ _ h) }

  pub room : at + length t ≤ length l → Wrote l at t (at + length t) (paste l at t (length t))
  unfolding put_text past_text
  room h = record { past = rw (le-leb _ _ h); held = rw (le-leb _ _ h, take-length) }

-- a text at the start of a buffer that has room for it is what is up to its end
pub at_start : {l t : List ℕ} {r : ℕ} {l' : List ℕ} → Wrote l 0 t r l' → length t ≤ length l → (r ≤ length l') × (take r l' ≡ t)
unfolding put_text past_text
at_start {l} {t} {r} {l'} w h =
    let fits : 0 + length t ≤ length l = omega (arith, h) in
    let end : 0 + length t ≡ length t = omega arith in
    let past : r ≡ length t = w.past ∙ rw (le-leb _ _ fits) end in
    let held : l' ≡ t ++ drop (0 + length t) l = w.held ∙ rw (le-leb _ _ fits) refl in
    let whole : length l' ≡ length t + length (drop (0 + length t) l) = ap length held ∙ length-append t _ in
    (omega (arith, past, whole), ap₂ take past held ∙ take_at t (drop (0 + length t) l) (length t) refl)

pub last_digits-length : (b k n : ℕ) → length (last_digits b k n) ≡ k
last_digits-length b zero n = refl
last_digits-length b (suc k) n = length-append (last_digits b k (n / b)) _ ∙ omega (arith, last_digits-length b k (n / b))

pub hexadecimal_text-most : (n : ℕ) → length (hexadecimal_text n) ≤ 16
unfolding hexadecimal_text
hexadecimal_text-most n = subst (λ (k : ℕ). k ≤ 16) (sym (last_digits-length 16 16 n)) (lit≤ tt)

-- the text of a float is `nan` or all its digits
pub float_text-most : {A : Type 0} (digits : ℕ) (bits : A → Option ℕ) (x : A) (most : ℕ) → 3 ≤ most → digits ≤ most → length (float_text digits bits x) ≤ most
unfolding float_text
float_text-most digits bits x most short long = of_bits (bits x)
  where
    of_bits : (b : Option ℕ) → length {A = ℕ} (elim b [ None ↦ nan_text | Some n ↦ last_digits 16 digits n ]) ≤ most
    of_bits None = short
    of_bits (Some n) = subst (λ (k : ℕ). k ≤ most) (sym (last_digits-length 16 digits n)) long

-- a decimal text has at most 20 digits
one_place-most : (k more rest : ℕ) (b : Bool) → rest ≤ suc k + more → cond b k rest ≤ k + suc more
one_place-most k more rest true h = omega arith
one_place-most k more rest false h = omega (arith, h)

places-most : (more k n : ℕ) → places more k n ≤ k + more
unfolding places
places-most zero k n = omega arith
places-most (suc more) k n = one_place-most k more _ (ltb n (10 ^ k)) (places-most more (suc k) n)

pub decimal_text-most : (n : ℕ) → length (decimal_text n) ≤ 20
unfolding decimal_text
decimal_text-most n = subst (λ (k : ℕ). k ≤ 20) (sym (last_digits-length 10 (places 19 1 n) n)) (places-most 19 1 n)

-- the same text, said otherwise
pub rewritten : {l : List ℕ} {at : ℕ} {t u : List ℕ} {r : ℕ} {l' : List ℕ} → t ≡ u → Wrote l at t r l' → Wrote l at u r l'
rewritten {l} {at} {t} {u} {r} {l'} e w = subst (λ (v : List ℕ). Wrote l at v r l') e w

-- a number below b ^ k does not take more than k digits of base b
not_more : (b n k r : ℕ) → 0 < b → n < b ^ k → (k < r → b ^ (r - 1) ≤ n) → r ≤ k
not_more b n k r pos fit few =
    let no : k < r → ⊥ =
    λ h.
    let g : b ^ k ≤ b ^ (r - 1) = pow-le-pow_right pos (omega arith) in
    let f : b ^ (r - 1) ≤ n = few h in
    omega arith in
    omega arith

-- where the least number of digits holds n, it is the fewest
pub at_least : (b least n k : ℕ) → 0 < b → n < b ^ least → IsDigitCount b least n k → k ≡ least
at_least b least n k pos fit f = le_antisymm (not_more b n least k pos fit f.2) f.0

-- `places` finds the fewest decimal digits, from k on: one step, and all
one_place : (k n r : ℕ) (rest : ℕ) → k ≤ r → n < 10 ^ r → (k < r → 10 ^ (r - 1) ≤ n) → (k < r → rest ≡ r) → (b : Bool) → ltb n (10 ^ k) ≡ b → cond b k rest ≡ r
one_place k n r rest lo fit few more true e = le_antisymm lo (not_more 10 n k r (lit< tt) (ltb-true _ _ e) few)
one_place k n r rest lo fit few more false e =
    let g : 10 ^ k ≤ n = ltb-false _ _ e in
    let apart : k ≡ r → ⊥ = λ h. let w : n < 10 ^ k = subst (λ (j : ℕ). n < 10 ^ j) (sym h) fit in omega arith in
    more (omega arith)

places_is : (more k n r : ℕ) → k ≤ r → r ≤ k + more → n < 10 ^ r → (k < r → 10 ^ (r - 1) ≤ n) → places more k n ≡ r
unfolding places
places_is zero k n r lo hi fit few = omega arith
places_is (suc more) k n r lo hi fit few =
    one_place k n r (places more (suc k) n) lo fit few
    (λ next. places_is more (suc k) n r (omega arith) (omega arith) fit (λ h. few next))
    (ltb n (10 ^ k)) refl

-- the fewest decimal digits of a number of 64 bits
pub decimal_places : (n k : ℕ) → n < 2 ^ 64 → IsDigitCount 10 1 n k → places 19 1 n ≡ k
decimal_places n k h f =
    let most : k ≤ 20 = not_more 10 n 20 k (lit< tt) (lt_of_lt_of_le h (lit≤ tt)) (λ g. f.2 (omega arith)) in
    places_is 19 1 n k f.0 (omega arith) f.1 f.2
