-- A text added behind another, and how long a number's digits are at most. Assumes nothing.
use Prim.Native.Nat.{ℕ, zero, suc, ◌+◌, ◌/◌, ◌^◌, ◌≤◌}
use mathlib.Core.Path.{◌≡◌, refl, sym, ap, ◌∙◌}
use mathlib.Core.Bool.{Bool, true, false, cond}
use mathlib.Core.List.{List, ◌++◌, append_assoc}
use native.Mathlib.Omega.{arith}
use native.Mathlib.Nat.{add_assoc}
use native.Mathlib.Numerals.{add-one}
use borrow.Author.Tests.{le-leb}
use lib.Dec.{ltb}
use lib.ListN.{length, take, drop, length-append, length-take}
use lib.Seq.{take_at, drop_at}
use Rattle.io.specs.Counts.{IsPrefixLen}
use Rattle.io.specs.Digits.{last_digits}
use Rattle.text.specs.Written.{Wrote, put_text, past_text, places, decimal_text}
use Rattle.report_lines.specs.Line.{Added, number_then}
use Rattle.report_lines.specs.Text.{Over}

-- what `text::put` writes where there is room
pub put_over : (l : List ℕ) (at : ℕ) (t : List ℕ) (r : ℕ) (l' : List ℕ) → at + length t ≤ length l → Wrote l at t r l' → IsPrefixLen r l' × Over l at t r l'
unfolding put_text past_text
put_over l at t r l' h w =
    let past : r ≡ at + length t = rw (le-leb _ _ h) at w.past in
    let held : l' ≡ take at l ++ t ++ drop (at + length t) l = rw (le-leb _ _ h) at w.held in
    let fit : length (take at l ++ t) ≡ at + length t = simp (length-append, length-take) (omega arith) in
    let front : take r l' ≡ take at l ++ t = rw (past, held) (take_at (take at l ++ t) (drop (at + length t) l) (at + length t) fit) in
    let count : r ≡ length (take r l') = past ∙ sym fit ∙ ap length (sym front) in (
      (omega (arith, length-take r l'), count),
      record {
        past = past;
        front = front;
        rest = rw (past, held) (drop_at (take at l ++ t) (drop (at + length t) l) (at + length t) fit);
      },
    )

pub put-added : (l : List ℕ) (at : ℕ) (t : List ℕ) (r : ℕ) (l' : List ℕ) → at + length t ≤ length l → Wrote l at t r l' → Added l at t r l'
put-added l at t r l' h w = let o = (put_over l at t r l' h w).1 in record { past = o.past; held = o.front }

-- one text behind another
pub added-two : (l l' l'' : List ℕ) (at r r' : ℕ) (t u : List ℕ) → Added l at t r l' → Added l' r u r' l'' → Added l at (t ++ u) r' l''
added-two l l' l'' at r r' t u a b = record {
  past = b.past ∙ ap (λ (n : ℕ). n + length u) a.past ∙ simp (length-append) (add_assoc at (length t) (length u));
  held = b.held ∙ ap (λ (s : List ℕ). s ++ u) a.held ∙ append_assoc (take at l) t u;
}

-- ---- how many digits

digits_length : (b k n : ℕ) → length (last_digits b k n) ≡ k
digits_length b zero n = refl
digits_length b (suc k) n = length-append (last_digits b k (n / b)) _ ∙ ap (λ (m : ℕ). m + 1) (digits_length b k (n / b)) ∙ add-one k

-- both answers of a test are at most m; the second counts only where the test fails
either_most : (x y m : ℕ) (b : Bool) → x ≤ m → (b ≡ false → y ≤ m) → cond b x y ≤ m
either_most x y m true h k = h
either_most x y m false h k = k refl

places-most : (more k n : ℕ) → places more k n ≤ k + more
unfolding places
places-most zero k n = omega arith
places-most (suc more) k n =
    either_most k (places more (suc k) n) (k + suc more) (ltb n (10 ^ k)) (omega arith)
    (λ e. let r = places-most more (suc k) n in omega arith)

pub decimal_most : (n : ℕ) → length (decimal_text n) ≤ 20
unfolding decimal_text
decimal_most n = let p = places-most 19 1 n in rw (digits_length 10 (places 19 1 n) n) p

pub numbered-past : (l : List ℕ) (at n : ℕ) (t : List ℕ) (r : ℕ) (l' : List ℕ) → Added l at (number_then n t) r l' → r ≤ at + 20 + length t
unfolding number_then
numbered-past l at n t r l' a = let d = decimal_most n in let g = length-append (decimal_text n) t in omega (arith, a.past)

-- the same behind a name
pub named-past : (l name : List ℕ) (n : ℕ) (t : List ℕ) (r : ℕ) (l' : List ℕ) → Added l 0 (name ++ number_then n t) r l' → r ≤ length name + 20 + length t
unfolding number_then
named-past l name n t r l' a =
    let d = decimal_most n in
    let g = length-append (decimal_text n) t in
    let h = length-append name (decimal_text n ++ t) in
    omega (arith, a.past)
