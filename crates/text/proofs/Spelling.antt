-- Reading a number digit by digit, and the size of what n hexadecimal digits spell. Assumes nothing.
use Rattle.std.proofs.Common.{◌≡◌, ℕ, suc, ◌+◌, ◌*◌, ◌^◌, ◌≤◌, ◌<◌, Bool, true, false, cond, List, [], ◌∷◌, length, drop, get_or, refl, subst, arith, add-one, Option, Some, None}
use native.Mathlib.Nat.{pow-zero, pow-succ', mul-one, mul_assoc, suc-mul, mul-le-mul_right, lt_of_lt_of_le}
use borrow.Author.Tests.{ltb-true, eq-eqb}
use lib.Dec.{ltb, eqb}
use lib.ListN.{drop_of_length-le}
use lib.Seq.{drop-cons}
use Rattle.text.specs.Numbers.{digit_of, with_digit, number_from, number_of}

-- the number so far is n, and o what the digit at i makes of it
module _ (base n : ℕ) (s : List ℕ) (i : ℕ) (h : i < length s) where
  pub next_digit : (m : ℕ) → Some m ≡ with_digit base n (get_or s i 0) → number_from base n (drop i s) ≡ number_from base m (drop (i + 1) s)
  unfolding number_from
  next_digit m e = rw (drop-cons s i 0, number_from, ← e, add-one)

  pub no_digit : None ≡ with_digit base n (get_or s i 0) → number_from base n (drop i s) ≡ None
  unfolding number_from
  no_digit e = rw (drop-cons s i 0, number_from, ← e)

pub no_digits_left : (base n : ℕ) (s : List ℕ) (i : ℕ) → length s ≤ i → number_from base n (drop i s) ≡ Some n
unfolding number_from
no_digits_left base n s i h = rw (drop_of_length-le s h)

-- with a digit more the number stays below the next n with as many digits
digit-below : (b n c m : ℕ) → with_digit b n c ≡ Some m → suc m ≤ suc n * b
unfolding with_digit
digit-below b n c m e = go (digit_of c) e
  where
    fit : (d : ℕ) (t u : Bool) → ltb d b ≡ t → cond t (cond u (Some (n * b + d)) None) None ≡ Some m → suc m ≤ suc n * b
    fit d true true h e =
        let g : d < b = ltb-true d b h in
        let k : n * b + d ≡ m = cc in
        rw (suc-mul) (omega arith)
    fit d true false h e = absurd (cc)
    fit d false u h e = absurd (cc)

    go : (o : Option ℕ) → elim o [ None ↦ None | Some d ↦ cond (ltb d b) (cond (ltb (n * b + d) (2 ^ 64)) (Some (n * b + d)) None) None ] ≡ Some m → suc m ≤ suc n * b
    go None e = absurd (cc)
    go (Some d) e = fit d (ltb d b) (ltb (n * b + d) (2 ^ 64)) refl e

-- the digits of s behind n spell a number below (n + 1) * b ^ length s
spelt-below : (b n : ℕ) (s : List ℕ) (v : ℕ) → number_from b n s ≡ Some v → v < suc n * b ^ length s
unfolding number_from
spelt-below b n [] v e =
    let g : n ≡ v = cc in
    rw (pow-zero, mul-one) (omega arith)
spelt-below b n (c ∷ s) v e = go (with_digit b n c) refl e (λ m k. spelt-below b m s v k)
  where
    go : (o : Option ℕ) → with_digit b n c ≡ o → elim o [ None ↦ None | Some m ↦ number_from b m s ] ≡ Some v → ((m : ℕ) → number_from b m s ≡ Some v → v < suc m * b ^ length s) → v < suc n * b ^ length (c ∷ s)
    go None h e rest = absurd (cc)
    go (Some m) h e rest =
        let room : suc m ≤ suc n * b = digit-below b n c m h in
        rw (pow-succ', ← mul_assoc) (lt_of_lt_of_le (rest m e) (mul-le-mul_right (b ^ length s) room))

-- k hexadecimal digits spell a number below 16 ^ k
pub digits-below : (s : List ℕ) (k v : ℕ) → length s ≡ k → number_of 16 s ≡ Some v → v < 16 ^ k
unfolding number_of
digits-below s k v h e = go (eqb (length s) 0) e
  where
    go : (t : Bool) → cond t None (number_from 16 0 s) ≡ Some v → v < 16 ^ k
    go true f = absurd (cc)
    go false f =
        let g : v < 1 * 16 ^ length s = spelt-below 16 0 s v f in
        let P : ℕ → Type 0 = λ n. v < 16 ^ n in
        subst P h (omega (arith, g))

pub no_number : (base : ℕ) (s : List ℕ) → length s ≡ 0 → number_of base s ≡ None
unfolding number_of
no_number base s h = rw (eq-eqb _ _ h)
