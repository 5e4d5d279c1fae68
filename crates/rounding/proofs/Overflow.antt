-- What `nearest` takes is too many units exactly where the number reaches the largest finite value and half a unit of its last digit. Assumes nothing.
use mathlib.Core.Path.{◌≡◌, sym, ap, ◌∙◌}
use mathlib.Core.Logic.{◌⊎◌, inl, inr}
use Prim.Native.Nat.{ℕ, suc, ◌+◌, ◌-◌, ◌*◌, ◌%◌, ◌^◌, ◌≤◌, ◌<◌, Ordering}
use native.Mathlib.Nat.{le_trans, le_of_eq, le_antisymm, le_of_suc-le-suc, mul_comm, mul_assoc, mul_left_comm, mul-le-mul, mul-le-mul_left, mul-le-mul_right, mul-pos, le_of_mul-le-mul_right, eq_of_mul-eq-mul_right, suc-mul, pow-succ'}
use native.Mathlib.Omega.{arith}
use lib.Pow.{pow_pos, pow_mono}
use lib.Ieee.{Format, prec, emax, low, nearest, hid}
use lib.Ieee.Fits.{nearest-le}
use lib.Ieee.Nearest.{nearest-ge}
use lib.Ieee.Scale.{overflow}
use Rattle.ieee.proofs.Units.{twice_hid, overflow-is}
use Rattle.rounding.specs.Meaning.{Number, at_least}
use Rattle.rounding.proofs.Numbers.{Lawful}
use Rattle.rounding.proofs.Values.{split-le}
use Rattle.rounding.proofs.Limit.{unit, limit, limit_is, limit_twice, one_less, many}
use Rattle.rounding.proofs.Located.{Located, Is, taken}

module _ (f : Format) (v : Number) (law : Lawful v) (q k : ℕ) (o : Ordering) (at : Located f v q k o) where
  abbrev all : ℕ
  all = 2 ^ prec f

  -- Of two neighbours 2 ^ k units apart, either 2 ^ k is at most half of `unit`, or it is `unit`, or the lower one is too many.
  abbrev Place : Type 0
  Place = (2 * (all * 2 ^ k) ≤ all * unit f) ⊎ ((k ≡ 2 * emax f - 1) ⊎ (all * unit f ≤ q * 2 ^ k))

  place : Place
  place = go (split-le (suc k) (2 * emax f - 1)) (split-le k (2 * emax f - 1))
    where
      over : 2 * emax f - 1 < k → (hid f ≤ q) ⊎ (k ≡ 0) → all * unit f ≤ q * 2 ^ k
      over g (inl b) =
          le_trans (le_of_eq (ap (λ (z : ℕ). z * unit f) (twice_hid f ∙ mul_comm 2 (hid f)) ∙ mul_assoc (hid f) 2 (unit f) ∙ ap (λ (z : ℕ). hid f * z) (sym (pow-succ' 2 (2 * emax f - 1))))) (mul-le-mul b (pow_mono g))
      over g (inr z) = absurd (omega arith)

      go : (suc k ≤ 2 * emax f - 1) ⊎ (2 * emax f - 1 < suc k) → (k ≤ 2 * emax f - 1) ⊎ (2 * emax f - 1 < k) → Place
      go (inl h) g = inl (le_trans (le_of_eq (mul_left_comm 2 all (2 ^ k) ∙ ap (λ (z : ℕ). all * z) (sym (pow-succ' 2 k)))) (mul-le-mul_left all (pow_mono h)))
      go (inr h) (inl g) = inr (inl (le_antisymm g (le_of_suc-le-suc h)))
      go (inr h) (inr g) = inr (inr (over g at.full))

  -- where 2 ^ k is `unit` and q is all ones, the limit is the middle
  upper_is : k ≡ 2 * emax f - 1 → suc q * 2 ^ k ≡ q * 2 ^ k + unit f
  upper_is e = suc-mul q (2 ^ k) ∙ ap (λ (z : ℕ). q * 2 ^ k + 2 ^ z) e

  middle_is : k ≡ 2 * emax f - 1 → all ≤ suc q → (q * 2 ^ k + suc q * 2 ^ k) * 2 ≡ limit f * (2 * 2 ^ low f)
  middle_is e g =
      let a = upper_is e in
      let b : suc q * 2 ^ k ≡ all * unit f = ap (λ (z : ℕ). z * 2 ^ k) (le_antisymm at.small g) ∙ ap (λ (z : ℕ). all * 2 ^ z) e in
      let c = one_less f in
      let d = limit_twice f in
      omega arith

  pub reaches : at_least v (limit f) 2 → overflow f ≤ nearest q o * 2 ^ k
  reaches h = le_trans (le_of_eq (overflow-is f)) (go place)
    where
      -- the limit is not beyond the upper neighbour
      below_upper : 2 * ((all - 1) * unit f) + unit f ≤ suc q * 2 ^ k * 2
      below_upper = le_trans (le_of_eq (sym (limit_is f))) (law.order (limit f) 2 (suc q * 2 ^ k) (2 ^ low f) h at.most)

      all_ones : k ≡ 2 * emax f - 1 → all ≤ suc q
      all_ones e = by (split-le all (suc q))
        where
          more : suc (suc q) * unit f ≡ suc q * 2 ^ k + unit f
          more = suc-mul (suc q) (unit f) ∙ ap (λ (z : ℕ). suc q * 2 ^ z + unit f) (sym e)

          by : (all ≤ suc q) ⊎ (suc q < all) → all ≤ suc q
          by (inl g) = g
          by (inr g) = absurd (let a = mul-le-mul_right (unit f) g in let b = below_upper in let c = one_less f in let d = more in let p = pow_pos (2 * emax f - 1) in omega arith)

      at_unit : k ≡ 2 * emax f - 1 → all ≤ suc q → Is f v law q k o at (nearest q o) → all * unit f ≤ nearest q o * 2 ^ k
      at_unit e g (inl t) = absurd (odd (t.2 (law.lower (limit f) 2 (q * 2 ^ k + suc q * 2 ^ k) (2 * 2 ^ low f) (pow_pos 1) (le_of_eq (middle_is e g)) h)))
        where
          -- all ones is odd
          odd : nearest q o % 2 ≡ 0 → ⊥
          odd z =
              let a : nearest q o ≡ q = eq_of_mul-eq-mul_right (2 ^ k) (pow_pos k) (nearest q o) q t.0 in
              let b : q % 2 ≡ 0 = ap (λ (i : ℕ). i % 2) (sym a) ∙ z in
              let c : suc q ≡ all = le_antisymm at.small g in
              let d = twice_hid f in
              omega arith
      at_unit e g (inr t) = le_trans (mul-le-mul g (pow_mono (le_of_eq (sym e)))) (le_of_eq (sym t.0))

      go : Place → all * unit f ≤ nearest q o * 2 ^ k
      go (inl g) = absurd (let a = mul-le-mul_right (2 ^ k) at.small in let b = below_upper in let c = one_less f in let d = many f in let p = pow_pos (2 * emax f - 1) in omega arith)
      go (inr (inl g)) = at_unit g (all_ones g) (taken f v law q k o at)
      go (inr (inr g)) = le_trans g (mul-le-mul_right (2 ^ k) (nearest-ge q o))

  pub reached : overflow f ≤ nearest q o * 2 ^ k → at_least v (limit f) 2
  reached h = go place
    where
      enough : all * unit f ≤ nearest q o * 2 ^ k
      enough = le_trans (le_of_eq (sym (overflow-is f))) h

      at_unit : k ≡ 2 * emax f - 1 → Is f v law q k o at (nearest q o) → at_least v (limit f) 2
      at_unit e (inl t) =
          absurd (let a = upper_is e in let b : suc q * 2 ^ k ≤ all * unit f = mul-le-mul at.small (pow_mono (le_of_eq e)) in let c = enough in let d = t.0 in let p = pow_pos (2 * emax f - 1) in omega arith)
      at_unit e (inr t) =
          let a : all ≤ suc q = le_of_mul-le-mul_right {m = all} {n = suc q} {k = unit f} (le_trans enough (le_of_eq (t.0 ∙ ap (λ (z : ℕ). suc q * 2 ^ z) e))) (pow_pos (2 * emax f - 1)) in
          law.lower (q * 2 ^ k + suc q * 2 ^ k) (2 * 2 ^ low f) (limit f) 2 (mul-pos (pow_pos 1) (pow_pos (low f))) (le_of_eq (sym (middle_is e a))) t.1

      go : Place → at_least v (limit f) 2
      go (inl g) = absurd (let a = mul-le-mul_right (2 ^ k) (le_trans (nearest-le q o) at.small) in let b = enough in let d = many f in let p = pow_pos (2 * emax f - 1) in omega arith)
      go (inr (inl g)) = at_unit g (taken f v law q k o at)
      go (inr (inr g)) = law.lower (q * 2 ^ k) (2 ^ low f) (limit f) 2 (pow_pos (low f)) (le_trans (le_of_eq (limit_is f)) (let c = one_less f in omega arith)) at.least
