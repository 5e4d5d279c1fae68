-- A number's decimal text is what the library writes of it. Assumes nothing.
use Rattle.std.proofs.Common.{◌≡◌, ℕ, zero, suc, ◌+◌, ◌*◌, ◌/◌, ◌%◌, ◌^◌, ◌≤◌, ◌<◌, List, [], ◌∷◌, ◌++◌, length, sym, ap, ap₂, ◌∙◌, subst, arith, add-one}
use native.Mathlib.Numerals.{unary_clauses}
use borrow.Author.Tests.{lt-ltb}
use lib.ListN.{length-append}
use Rattle.std.specs.Fmt.{decimal}
use Rattle.std.proofs.lemmas.Fmt.{decimal_by_steps}
use Rattle.io.specs.Digits.{last_digits, hex_digit_ascii, IsDigitCount}
use Rattle.text.specs.Written.{decimal_text}
use Rattle.text.proofs.Placing.{decimal_places}

-- the digits are those of the number, and no fewer would do
abbrev Spells : ℕ → List ℕ → Type 0
Spells n s = (last_digits 10 (length s) n ≡ s) × IsDigitCount 10 1 n (length s)

decimal_digit : (d : ℕ) → d < 10 → hex_digit_ascii d ≡ 48 + d
decimal_digit d h = rw (lt-ltb d 10 h)

one_digit : (n : ℕ) → n < 10 → Spells n ((48 + n) ∷ [])
one_digit n h =
    let same : n % 10 ≡ n = omega arith in
    (ap (λ d. hex_digit_ascii d ∷ []) same ∙ ap (λ b. b ∷ []) (decimal_digit n h), (omega arith, omega arith, λ f. absurd (omega arith)))

-- the digits of n are those of n / 10 and one more
longer : (n j : ℕ) → 10 ≤ n → IsDigitCount 10 1 (n / 10) j → IsDigitCount 10 1 n (suc j)
longer n zero h c = absurd (omega (arith, c.0))
longer n (suc zero) h c = (omega arith, omega (arith, c.1), λ f. omega arith)
longer n (suc (suc i)) h c =
    let least : 10 ^ i * 10 ≤ n / 10 = simp unary_clauses at (c.2 (omega arith)) in
    let fit : n / 10 < 10 ^ i * 10 * 10 = simp unary_clauses at c.1 in
    simp unary_clauses (omega arith, omega (arith, fit), λ f. omega (arith, least))

one_more_digit : (n : ℕ) (s : List ℕ) → 10 ≤ n → Spells (n / 10) s → Spells n (s ++ ((48 + n % 10) ∷ []))
one_more_digit n s h k =
    let e : suc (length s) ≡ length (s ++ ((48 + n % 10) ∷ [])) = sym (length-append s _ ∙ add-one (length s)) in
    let digits : last_digits 10 (suc (length s)) n ≡ s ++ ((48 + n % 10) ∷ []) = ap₂ (λ a b. a ++ (b ∷ [])) k.0 (decimal_digit (n % 10) (omega arith)) in
    (ap (λ j. last_digits 10 j n) (sym e) ∙ digits, subst (λ (j : ℕ). IsDigitCount 10 1 n j) e (longer n (length s) h k.1))

pub decimal_is_text : (n : ℕ) → n < 2 ^ 64 → decimal n ≡ decimal_text n
unfolding decimal_text
decimal_is_text n h =
    let k = decimal_by_steps Spells one_digit (λ n s more rest. one_more_digit n s more rest) n h in
    sym (ap (λ j. last_digits 10 j n) (decimal_places n (length (decimal n)) h k.1) ∙ k.0)
