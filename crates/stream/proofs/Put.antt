-- Laws of `put`.
use mathlib.Core.Path.{◌≡◌, sym, ap, ◌∙◌}
use mathlib.Core.List.{List, [], ◌∷◌, ◌++◌, append_assoc, append-nil}
use Prim.Native.Nat.{ℕ, ◌+◌, ◌≤◌, ◌<◌}
use native.Mathlib.Nat.{add-zero, add_assoc}
use native.Mathlib.Numerals.{add-one}
use native.Mathlib.Omega.{arith}
use lib.ListN.{length, take, drop, set, length-append, take-append-drop, length-drop}
use lib.Seq.{paste, length-take-le, take_at, drop-append-add, drop-drop, sets-eq}
use Rattle.std.proofs.lemmas.List.Edits.{paste_all}
use Rattle.stream.specs.Stream.{put}

module _ {ℓ} {A : Type ℓ} where
  head_length : (l : List A) (i : ℕ) (vs : List A) → i ≤ length l → length (take i l ++ vs) ≡ i + length vs
  head_length l i vs h = length-append (take i l) vs ∙ ap (λ (k : ℕ). k + length vs) (length-take-le i l h)

  pub length-put : (l : List A) (i : ℕ) (vs : List A) → i + length vs ≤ length l → length (put l i vs) ≡ length l
  unfolding put
  length-put l i vs h =
      let e : length (take i l ++ vs) ≡ i + length vs = head_length l i vs (omega arith) in
      length-append (take i l ++ vs) (drop (i + length vs) l) ∙ omega (arith, length-drop (i + length vs) l)

  -- one store, and two
  pub put_one : (l : List A) (i : ℕ) (v : A) → i < length l → set l i v ≡ put l i (v ∷ [])
  unfolding put
  put_one l i v h = sets-eq (v ∷ []) l i (omega (arith, add-one i))

  pub put_two : (l : List A) (i : ℕ) (v w : A) → i + 2 ≤ length l → set (set l i v) (i + 1) w ≡ put l i (v ∷ w ∷ [])
  unfolding put
  put_two l i v w h = ap (λ (k : ℕ). set (set l i v) k w) (add-one i) ∙ sets-eq (v ∷ w ∷ []) l i h

  pub put_nil : (l : List A) (i : ℕ) → put l i [] ≡ l
  unfolding put
  put_nil l i = ap (λ (k : ℕ). (take i l ++ []) ++ drop k l) (add-zero i) ∙ ap (λ (r : List A). r ++ drop i l) (append-nil (take i l)) ∙ take-append-drop i l

  put-put : (l : List A) (i : ℕ) (vs ws : List A) → i ≤ length l → put (put l i vs) (i + length vs) ws ≡ put l i (vs ++ ws)
  unfolding put
  put-put l i vs ws h =
      let n : ℕ = i + length vs in
      let p : List A = take i l ++ vs in
      let e : length p ≡ n = head_length l i vs h in
      ap (λ (r : List A). (r ++ ws) ++ drop (n + length ws) (p ++ drop n l)) (take_at p (drop n l) n e)
      ∙ ap (λ (k : ℕ). (p ++ ws) ++ drop (k + length ws) (p ++ drop n l)) (sym e)
      ∙ ap (λ (r : List A). (p ++ ws) ++ r) (drop-append-add p (drop n l) (length ws) ∙ drop-drop (length ws) n l)
      ∙ ap (λ (r : List A). r ++ drop (n + length ws) l) (append_assoc (take i l) vs ws)
      ∙ ap (λ (k : ℕ). (take i l ++ (vs ++ ws)) ++ drop k l) (add_assoc i (length vs) (length ws) ∙ ap (λ (k : ℕ). i + k) (sym (length-append vs ws)))

  -- a put at the end of a put is one put
  pub put-after : (l m : List A) (i j : ℕ) (vs ws : List A) → i ≤ length l → j ≡ i + length vs → m ≡ put l i vs → put m j ws ≡ put l i (vs ++ ws)
  put-after l m i j vs ws h e p = ap (λ (r : List A). put r j ws) p ∙ ap (λ (k : ℕ). put (put l i vs) k ws) e ∙ put-put l i vs ws h

  take_put : (l : List A) (i : ℕ) (vs : List A) → i ≤ length l → take (i + length vs) (put l i vs) ≡ take i l ++ vs
  unfolding put
  take_put l i vs h = take_at (take i l ++ vs) (drop (i + length vs) l) (i + length vs) (head_length l i vs h)

  -- what was there up to k, and what was put behind it
  pub take-grown : (l : List A) (i j k : ℕ) (vs old : List A) → i ≤ length l → take k l ≡ old → i ≡ k → j ≡ i + length vs → take j (put l i vs) ≡ old ++ vs
  take-grown l i j k vs old h p e f =
      ap (λ (x : ℕ). take x (put l i vs)) f ∙ (take_put l i vs h ∙ ap (λ (r : List A). r ++ vs) (ap (λ (x : ℕ). take x l) e ∙ p))

-- what the library copies into a part
pub put_paste : {A : Type 0} (l : List A) (i : ℕ) (vs : List A) (n : ℕ) → n ≡ length vs → paste l i vs n ≡ put l i vs
unfolding put
put_paste l i vs n e = paste_all l i vs n e ∙ ap (λ (k : ℕ). take i l ++ (vs ++ drop (i + k) l)) e ∙ sym (append_assoc (take i l) vs _)
