-- One word of a line after the other. Assumes nothing.
use Rattle.std.proofs.Common.{◌≡◌, ℕ, zero, suc, ◌≤◌, Bool, true, false, cond, List, length, refl, sym, ◌∙◌, arith}
use Rattle.text.specs.Words.{first_word, after_word}
use Rattle.text.proofs.Scanning.{rest-shorter, no-word}
use Rattle.operands.specs.Operands.{over_words}
use borrow.Author.Tests.{eq-eqb, ne_eqb}
use lib.Dec.{eqb}
use mathlib.Core.Bool.{true≢false}

module _ {S : Type 0} (step : S → List ℕ → S) where
  pub none_left : (n : ℕ) (x : S) (s : List ℕ) → length (first_word s) ≡ 0 → over_words step n x s ≡ x
  unfolding over_words
  none_left zero x s h = refl
  none_left (suc n) x s h = rw (eq-eqb _ _ h)

  -- more than the bytes of the line need not be asked for
  enough : (n m : ℕ) (x : S) (s : List ℕ) → length s ≤ n → length s ≤ m → over_words step n x s ≡ over_words step m x s
  unfolding over_words
  enough zero m x s h k = sym (none_left m x s (no-word s (omega arith)))
  enough (suc n) zero x s h k = none_left (suc n) x s (no-word s (omega arith))
  enough (suc n) (suc m) x s h k = go (eqb (length (first_word s)) 0) refl (λ l r. enough n m (step x (first_word s)) (after_word s) l r)
    where
      T : ℕ → ℕ → Type 0
      T n m = over_words step n (step x (first_word s)) (after_word s) ≡ over_words step m (step x (first_word s)) (after_word s)

      go : (t : Bool) → eqb (length (first_word s)) 0 ≡ t → (length (after_word s) ≤ n → length (after_word s) ≤ m → T n m) → cond t x (over_words step n (step x (first_word s)) (after_word s)) ≡ cond t x (over_words step m (step x (first_word s)) (after_word s))
      go true e rest = refl
      go false e rest = let w = rest-shorter s (λ z. true≢false (sym (eq-eqb _ _ z) ∙ e)) in rest (omega arith) (omega arith)

  -- what the first word, w, makes of x is y, and t follows it
  pub one_more : (x y : S) (s w t : List ℕ) → w ≡ first_word s → t ≡ after_word s → (length (first_word s) ≡ 0 → ⊥) → step x w ≡ y → over_words step (length s) x s ≡ over_words step (length t) y t
  unfolding over_words
  one_more x y s w t d f h e = rw (← e, d, f) (go (length s) refl)
    where
      go : (n : ℕ) → length s ≡ n → over_words step n x s ≡ over_words step (length (after_word s)) (step x (first_word s)) (after_word s)
      go zero e = absurd (h (no-word s e))
      go (suc n) e = let w = rest-shorter s h in rw (ne_eqb _ _ h) (enough n (length (after_word s)) (step x (first_word s)) (after_word s) (omega arith) (omega arith))

  -- a state that no word changes
  pub stuck : (x : S) → ((w : List ℕ) → step x w ≡ x) → (n : ℕ) (s : List ℕ) → over_words step n x s ≡ x
  unfolding over_words
  stuck x h zero s = refl
  stuck x h (suc n) s = go (eqb (length (first_word s)) 0) (rw (h (first_word s)) (stuck x h n (after_word s)))
    where
      go : (t : Bool) → over_words step n (step x (first_word s)) (after_word s) ≡ x → cond t x (over_words step n (step x (first_word s)) (after_word s)) ≡ x
      go true e = refl
      go false e = e
