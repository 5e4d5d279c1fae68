-- One byte of a word after the other. Assumes nothing.
use Rattle.std.proofs.Common.{◌≡◌, ℕ, zero, suc, ◌≤◌, Bool, cond, List, length, take, drop, refl, sym, arith}
use borrow.Author.Tests.{eq-eqb, ne_eqb}
use lib.Dec.{eqb}
use lib.ListN.{length-drop}
use Rattle.operands.specs.Appending.{Filled, overfull, with_byte, with_bytes}

pub none_left : (n : ℕ) (f : Filled ℕ) (w : List ℕ) → length w ≡ 0 → with_bytes n f w ≡ f
unfolding with_bytes
none_left zero f w h = refl
none_left (suc n) f w h = rw (eq-eqb _ _ h)

-- one digit is left
pub one_digit : (f : Filled ℕ) (w : List ℕ) → length w ≡ 1 → with_bytes (length w) f w ≡ overfull f
unfolding with_bytes
one_digit f w h = go (length w) h
  where
    go : (n : ℕ) → n ≡ 1 → with_bytes n f w ≡ overfull f
    go zero e = absurd (omega arith)
    go (suc n) e = rw (h)

-- more than the digits of the word need not be asked for
enough : (n m : ℕ) (f : Filled ℕ) (w : List ℕ) → length w ≤ n → length w ≤ m → with_bytes n f w ≡ with_bytes m f w
unfolding with_bytes
enough zero m f w h k = sym (none_left m f w (omega arith))
enough (suc n) zero f w h k = none_left (suc n) f w (omega arith)
enough (suc n) (suc m) f w h k = go (eqb (length w) 0) (eqb (length w) 1) (overfull f) (enough n m (with_byte f (take 2 w)) (drop 2 w) (simp length-drop (omega arith)) (simp length-drop (omega arith)))
  where
    go : (t u : Bool) (x : Filled ℕ) {y z : Filled ℕ} → y ≡ z → cond t f (cond u x y) ≡ cond t f (cond u x z)
    go t u x e = rw e

-- what the first two digits make of f is g
pub one_more : (f g : Filled ℕ) (w d t : List ℕ) → d ≡ take 2 w → t ≡ drop 2 w → 2 ≤ length w → with_byte f d ≡ g → with_bytes (length w) f w ≡ with_bytes (length t) g t
unfolding with_bytes
one_more f g w d t a b h e = rw (← e, a, b) (go (length w) refl)
  where
    go : (n : ℕ) → length w ≡ n → with_bytes n f w ≡ with_bytes (length (drop 2 w)) (with_byte f (take 2 w)) (drop 2 w)
    go zero e = absurd (omega arith)
    go (suc n) e =
        let p : length w ≡ 0 → ⊥ = λ z. omega arith in
        let q : length w ≡ 1 → ⊥ = λ z. omega arith in
        rw (ne_eqb _ _ p, ne_eqb _ _ q) (enough n (length (drop 2 w)) (with_byte f (take 2 w)) (drop 2 w) (simp length-drop (omega arith)) (omega arith))
