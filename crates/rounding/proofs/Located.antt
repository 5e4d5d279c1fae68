-- A number found between two neighbouring values of a format, and the one of them that `nearest` takes: it is on the number's side of the middle, and in the middle it is the even one.
-- `round` and `root_of` both end so. Assumes nothing.
use mathlib.Core.Path.{◌≡◌, refl, sym, subst}
use mathlib.Core.Logic.{◌⊎◌, inl, inr}
use Prim.Native.Nat.{ℕ, zero, suc, ◌+◌, ◌*◌, ◌%◌, ◌^◌, ◌≤◌, ◌<◌, Ordering}
use native.Mathlib.Nat.{le_trans, le_of_eq, le_of_lt, not-le_of_lt, suc-mul}
use native.Mathlib.Omega.{arith}
use lib.Pow.{pow_pos}
use lib.Ieee.{Format, prec, low, nearest, hid}
use Rattle.ieee.proofs.HalfEven.{Cmp}
use Rattle.rounding.specs.Meaning.{Number, at_most, at_least}
use Rattle.rounding.proofs.Numbers.{Lawful}
use Rattle.rounding.proofs.Neighbours.{Taken}

-- v lies between q * 2 ^ k and the next in units of f's smallest value, 2 ^ -low, and o says how it compares with their middle.
-- q has at most `prec` digits, and exactly as many where k is not 0.
pub record Located (f : Format) (v : Number) (q k : ℕ) (o : Ordering) : Type 0 where
  pub small : q < 2 ^ prec f
  pub full : (hid f ≤ q) ⊎ (k ≡ 0)
  pub least : at_least v (q * 2 ^ k) (2 ^ low f)
  pub most : at_most v (suc q * 2 ^ k) (2 ^ low f)
  pub middle : Cmp o (v.left (2 * 2 ^ low f)) (v.right (q * 2 ^ k + suc q * 2 ^ k))

-- a number that is no smaller has all the digits too
pub all_digits : (f : Format) (q k n : ℕ) → q ≤ n → (hid f ≤ q) ⊎ (k ≡ 0) → (hid f ≤ n) ⊎ (k ≡ 0)
all_digits f q k n h (inl g) = inl (le_trans g h)
all_digits f q k n h (inr e) = inr e

module _ (f : Format) (v : Number) (law : Lawful v) (q k : ℕ) (o : Ordering) (at : Located f v q k o) where
  pub step : q * 2 ^ k < suc q * 2 ^ k
  step = let e = suc-mul q (2 ^ k) in let p = pow_pos k in omega arith

  -- ---- what `nearest` takes
  abbrev kept : ℕ
  kept = nearest q o

  even_step : q % 2 ≡ 0 → q + q % 2 ≡ q
  even_step z = omega arith

  odd_step : q % 2 ≡ 1 → q + q % 2 ≡ suc q
  odd_step z = omega arith

  abbrev pub Is : ℕ → Type 0
  Is n = Taken v law (q * 2 ^ k) (suc q * 2 ^ k) (2 ^ low f) (pow_pos (low f)) step at.least at.most (n * 2 ^ k) (n % 2 ≡ 0)

  pub taken : Is (nearest q o)
  taken = go o at.middle
    where
      go : (o : Ordering) → Cmp o (v.left (2 * 2 ^ low f)) (v.right (q * 2 ^ k + suc q * 2 ^ k)) → Is (nearest q o)
      go Ordering.lt c = inl (refl, le_of_lt c, λ (g : at_least v (q * 2 ^ k + suc q * 2 ^ k) (2 * 2 ^ low f)). absurd (not-le_of_lt c g))
      go Ordering.gt c = inr (refl, le_of_lt c, λ (g : at_most v (q * 2 ^ k + suc q * 2 ^ k) (2 * 2 ^ low f)). absurd (not-le_of_lt c g))
      go Ordering.eq c = tie_of (q % 2) refl
        where
          tie_of : (i : ℕ) → q % 2 ≡ i → Is (q + q % 2)
          tie_of zero z = subst Is (sym (even_step z)) (inl (refl, le_of_eq c, λ g. z))
          tie_of (suc zero) z = subst Is (sym (odd_step z)) (inr (refl, le_of_eq (sym c), λ g. omega arith))
          tie_of (suc (suc i)) z = absurd (omega arith)
