-- Of a fraction, `Closer` is the order of the two distances, so the definition says what its name does. Assumes nothing.
use mathlib.Core.Path.{◌≡◌, sym, ap, ◌∙◌}
use mathlib.Core.Logic.{◌⊎◌, inl, inr}
use Prim.Native.Nat.{ℕ, ◌+◌, ◌-◌, ◌*◌, ◌≤◌, ◌<◌}
use native.Mathlib.Nat.{le_antisymm, mul_comm, mul_left_comm, mul-sub, add-mul, mul-le-mul_right, mul-lt-mul_of_pos_right, le_of_mul-le-mul_right, mul-pos, zero-mul, eq-zero-or-pos}
use native.Mathlib.Omega.{arith}
use mathlib.Core.Bool.{Bool, true, false}
use Rattle.rounding.specs.Meaning.{fraction, Closer, distance}
use Rattle.rounding.proofs.Values.{split-le}

module _ (n d a b c : ℕ) (D : 0 < d) where
  abbrev v : ℕ
  v = n * c

  abbrev x : ℕ
  x = a * d

  abbrev y : ℕ
  y = b * d

  double : n * (2 * c) ≡ 2 * v
  double = mul_left_comm n 2 c

  sum : (a + b) * d ≡ x + y
  sum = add-mul a b d

  difference : (i j : ℕ) → (i - j) * d ≡ i * d - j * d
  difference i j = mul_comm (i - j) d ∙ mul-sub d i j ∙ ap (λ (z : ℕ). z - d * j) (mul_comm d i) ∙ ap (λ (z : ℕ). i * d - z) (mul_comm d j)

  less : (i j : ℕ) → i < j → i * d < j * d
  less i j h = mul-lt-mul_of_pos_right h D

  pub distance_of_closer : (p q : Bool) → Closer (fraction n d) p a q b c → distance p v x ≤ distance q v y
  unfolding Closer
  distance_of_closer false false h = go (split-le a b) (split-le b a)
    where
      go : (a ≤ b) ⊎ (b < a) → (b ≤ a) ⊎ (a < b) → distance false v x ≤ distance false v y
      go (inl i) (inl j) = let e : x ≡ y = ap (λ (z : ℕ). z * d) (le_antisymm i j) in omega arith
      go (inl i) (inr j) = let l = less a b j in let k = h.0 j in let e = double in let g = sum in omega arith
      go (inr i) j = let l = less b a i in let k = h.1 i in let e = double in let g = sum in omega arith
  distance_of_closer false true h = let e = double in let g = difference a b in omega arith
  distance_of_closer true false h = go (eq-zero-or-pos (a + b))
    where
      go : (a + b ≡ 0) ⊎ (0 < a + b) → distance true v x ≤ distance false v y
      go (inl z) = let e : x + y ≡ 0 = sym sum ∙ ap (λ (i : ℕ). i * d) z ∙ zero-mul d in omega arith
      go (inr i) = let k = h i in let l = mul-le-mul_right d k.0 in let m = k.1 in let e = double in let g = difference b a in omega arith
  distance_of_closer true true h = let k = mul-le-mul_right d h in omega arith

  pub closer_of_distance : (p q : Bool) → distance p v x ≤ distance q v y → Closer (fraction n d) p a q b c
  unfolding Closer
  closer_of_distance false false h = (
    (λ (i : a < b). let l = less a b i in let e = double in let g = sum in omega arith),
    (λ (i : b < a). let l = less b a i in let e = double in let g = sum in omega arith),
  )
  closer_of_distance false true h = let e = double in let g = difference a b in omega arith
  closer_of_distance true false h =
      λ (i : 0 < a + b).
      let s = sum in
      let l : 0 < (a + b) * d = mul-pos i D in
      let k : x ≤ y = omega arith in
      (le_of_mul-le-mul_right k D, let e = double in let g = difference b a in omega arith)
  closer_of_distance true true h = let k : x ≤ y = omega arith in le_of_mul-le-mul_right k D
