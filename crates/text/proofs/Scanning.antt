-- Counting the elements in front that pass a test. Assumes nothing.
use Rattle.std.proofs.Common.{◌≡◌, ℕ, ◌≤◌, ◌<◌, Bool, true, false, not, cond, List, [], ◌∷◌, length, take, drop, refl, sym, ◌∙◌, arith, ◌+◌, nat_lt, Some, None, zero, suc}
use Rattle.std.proofs.lemmas.Bool.Decides.{nat_tests}
use Rattle.std.specs.Option.{unwrap_or}
use lib.ListN.{length-drop}
use Rattle.std.proofs.lemmas.List.Sums.{prefix_len-le-length}
use Rattle.std.specs.List.{prefix_len, position}
use Rattle.text.specs.Words.{belongs_to, after_blanks, first_word, after_word}
use Rattle.text.specs.declared.words.Class.TheVariants.{Word}

-- those in front of the first that fails
up_to_failing : (p : ℕ → Bool) (s : List ℕ) → prefix_len (λ x. not (not (p x))) s ≡ prefix_len p s
up_to_failing p [] = refl
up_to_failing p (b ∷ s) = go (p b) (up_to_failing p s)
  where
    go : {m n : ℕ} (t : Bool) → m ≡ n → cond (not (not t)) (1 + m) 0 ≡ cond t (1 + n) 0
    go true h = rw h
    go false h = refl

-- the place of the first that fails, or the end, is how many pass in front
pub leading_is : (p : ℕ → Bool) (s : List ℕ) → unwrap_or (position (λ b. not (p b)) s) (length s) ≡ prefix_len p s
leading_is p s = go (prefix_len (λ x. not (not (p x))) s) (up_to_failing p s) (prefix_len-le-length p s)
  where
    go : (n : ℕ) → n ≡ prefix_len p s → prefix_len p s ≤ length s → unwrap_or (cond (nat_lt n (length s)) (Some n) None) (length s) ≡ prefix_len p s
    go n e h = by (nat_lt n (length s)) refl
      where
        by : (t : Bool) → nat_lt n (length s) ≡ t → unwrap_or (cond t (Some n) None) (length s) ≡ prefix_len p s
        by true k = e
        by false k = grind (arith, nat_tests)

pub no_longer : (s : List ℕ) → length (after_blanks s) ≤ length s
unfolding after_blanks
no_longer s = simp length-drop (omega arith)

part-shorter : (n : ℕ) (t : List ℕ) → (length (take n t) ≡ 0 → ⊥) → length (drop n t) < length t
part-shorter zero t h = absurd (h refl)
part-shorter (suc n) [] h = absurd (h refl)
part-shorter (suc n) (b ∷ t) h = simp length-drop (omega arith)

-- what follows a word is shorter than the line
pub rest-shorter : (s : List ℕ) → (length (first_word s) ≡ 0 → ⊥) → length (after_word s) < length s
unfolding first_word after_word
rest-shorter s h =
    let l = no_longer s in
    let k = part-shorter (prefix_len (belongs_to Word) (after_blanks s)) (after_blanks s) h in
    omega arith

-- an empty line has no word
pub no-word : (s : List ℕ) → length s ≡ 0 → length (first_word s) ≡ 0
no-word s h = go (length (first_word s)) refl
  where
    go : (n : ℕ) → length (first_word s) ≡ n → length (first_word s) ≡ 0
    go zero e = e
    go (suc n) e = let k = rest-shorter s (λ z. let w : suc n ≡ 0 = sym e ∙ z in absurd (omega arith)) in absurd (omega arith)
