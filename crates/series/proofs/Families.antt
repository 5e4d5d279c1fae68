-- The first terms of a family, of any number: which stands at a place, and the first of them. Assumes nothing.
use mathlib.Core.Path.{◌≡◌, refl, sym, ap, ◌∙◌, subst}
use mathlib.Core.List.{List, ◌∷◌}
use Prim.Native.Nat.{ℕ, zero, suc, ◌<◌, ◌≤◌}
use native.Mathlib.Omega.{arith}
use lib.ListN.{length, get_or, take}
use lib.Ieee.{Float}
use Rattle.series.specs.Coefficients.{terms}

pub length-terms : (c : ℕ → Float) (n : ℕ) → length (terms c n) ≡ n
unfolding terms
length-terms c zero = refl
length-terms c (suc n) = ap suc (length-terms (λ k. c (suc k)) n)

pub terms-at : (c : ℕ → Float) (n k : ℕ) (d : Float) → k < n → get_or (terms c n) k d ≡ c k
unfolding terms
terms-at c zero k d h = absurd (omega arith)
terms-at c (suc n) zero d h = refl
terms-at c (suc n) (suc k) d h = terms-at (λ j. c (suc j)) n k d (omega arith)

pub terms-take : (c : ℕ → Float) (n m : ℕ) → m ≤ n → take m (terms c n) ≡ terms c m
unfolding terms
terms-take c n zero h = refl
terms-take c zero (suc m) h = absurd (omega arith)
terms-take c (suc n) (suc m) h = ap (λ (cs : List Float). c 0 ∷ cs) (terms-take (λ k. c (suc k)) n m (omega arith))

-- a family of n has its first m
pub enough : (cs : List Float) (c : ℕ → Float) (n m : ℕ) → cs ≡ terms c n → m ≤ n → m ≤ length cs
enough cs c n m e h = subst (λ (k : ℕ). m ≤ k) (sym (ap length e ∙ length-terms c n)) h
