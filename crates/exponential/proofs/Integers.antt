-- a - b as an integer: by which is the greater, equal differences, and sums with a difference. Assumes nothing.
use mathlib.Core.Path.{◌≡◌, sym, ap, ◌∙◌}
use mathlib.Core.Logic.{◌⊎◌, inl, inr}
use mathlib.Core.Bool.{Bool, true, false, not}
use Prim.Native.Nat.{ℕ, zero, suc, ◌+◌, ◌-◌, ◌≤◌, ◌<◌}
use native.Mathlib.Omega.{arith}
use borrow.Author.Tests.{le-leb, lt-leb, le-ltb, lt-ltb}
use lib.Dec.{T, leb, leb→le, nleb→lt}
use lib.IntN.{ℤ, pos, negsuc, neg_ℤ, sub_ℕ, ◌+ℤ◌}
use lib.Ieee.{minus}

pub below_or_on : (a b : ℕ) → (a < b) ⊎ (b ≤ a)
below_or_on a b = go (leb b a) (leb→le b a) (nleb→lt b a)
  where
    go : (t : Bool) → (T t → b ≤ a) → (T (not t) → a < b) → (a < b) ⊎ (b ≤ a)
    go true h k = inr (h tt)
    go false h k = inl (k tt)

pub minus-le : (a b : ℕ) → b ≤ a → minus a b ≡ pos (a - b)
minus-le a b h = simp (le-leb b a h)

pub minus-lt : (a b : ℕ) → a < b → minus a b ≡ negsuc (b - suc a)
minus-lt a b h = simp (lt-leb b a h)

pub minus_same : (a b c d : ℕ) → a + d ≡ c + b → minus a b ≡ minus c d
minus_same a b c d e =
    elim (below_or_on a b) [
      | inl h ↦ minus-lt a b h ∙ ap negsuc (neg_part a b c d e h) ∙ sym (minus-lt c d (below a b c d e h))
      | inr h ↦ minus-le a b h ∙ ap pos (pos_part a b c d e h) ∙ sym (minus-le c d (above a b c d e h))
    ]
  where
    neg_part : (a b c d : ℕ) → a + d ≡ c + b → a < b → b - suc a ≡ d - suc c
    neg_part a b c d e h = omega arith

    pos_part : (a b c d : ℕ) → a + d ≡ c + b → b ≤ a → a - b ≡ c - d
    pos_part a b c d e h = omega arith

    below : (a b c d : ℕ) → a + d ≡ c + b → a < b → c < d
    below a b c d e h = omega arith

    above : (a b c d : ℕ) → a + d ≡ c + b → b ≤ a → d ≤ c
    above a b c d e h = omega arith

sub_is : (a b : ℕ) → sub_ℕ a b ≡ minus a b
sub_is a b =
    elim (below_or_on a b) [
      | inl h ↦ simp (lt-ltb a b h) (sym (minus-lt a b h))
      | inr h ↦ simp (le-ltb a b h) (sym (minus-le a b h))
    ]

pub minus-add : (a b k : ℕ) → minus a b +ℤ pos k ≡ minus (a + k) b
minus-add a b k =
    elim (below_or_on a b) [
      | inl h ↦ ap (λ (z : ℤ). z +ℤ pos k) (minus-lt a b h) ∙ sub_is k (suc (b - suc a)) ∙ minus_same k (suc (b - suc a)) (a + k) b (reach a b k h)
      | inr h ↦ ap (λ (z : ℤ). z +ℤ pos k) (minus-le a b h) ∙ ap pos (over a b k h) ∙ sym (minus-le (a + k) b (omega arith))
    ]
  where
    reach : (a b k : ℕ) → a < b → k + b ≡ a + k + suc (b - suc a)
    reach a b k h = omega arith

    over : (a b k : ℕ) → b ≤ a → a - b + k ≡ a + k - b
    over a b k h = omega arith

-- b - n less b
pub minus-down : (b n : ℕ) → n ≤ b → minus (b - n) b ≡ neg_ℤ (pos n)
minus-down b zero h = minus-le (b - 0) b (omega arith) ∙ ap pos {y = 0} (omega arith)
minus-down b (suc n) h = minus-lt (b - suc n) b (omega arith) ∙ ap negsuc {y = n} (omega arith)
