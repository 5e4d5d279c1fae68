-- A number v between two neighbours A / l and B / l, and the one of them that is on v's side of the middle: of all that is not strictly between the two it is the nearest,
-- and where something else is as near, v is in the middle. Nothing here is about floats. Assumes nothing.
use mathlib.Core.Path.{◌≡◌, sym, ◌∙◌, subst}
use mathlib.Core.Logic.{◌⊎◌, inl, inr}
use Prim.Native.Nat.{ℕ, ◌+◌, ◌-◌, ◌*◌, ◌≤◌, ◌<◌}
use native.Mathlib.Nat.{le_of_eq, not-le_of_lt, mul_comm, mul_right_comm, mul-le-mul_right, le_of_mul-le-mul_right}
use native.Mathlib.Omega.{arith}
use mathlib.Core.Bool.{Bool, true, false}
use Rattle.rounding.specs.Meaning.{Number, at_most, at_least, Closer}
use Rattle.rounding.proofs.Numbers.{Lawful, Differ}

module _ (v : Number) (law : Lawful v) (A B l : ℕ) (L : 0 < l) (step : A < B) (lo : at_least v A l) (hi : at_most v B l) where
  -- r is A, and v is not beyond the middle, or r is B, and v is not before it; in the middle E holds
  abbrev pub Taken : ℕ → Type 0 → Type 0
  Taken r E = ((r ≡ A) × at_most v (A + B) (2 * l) × (at_least v (A + B) (2 * l) → E)) ⊎ ((r ≡ B) × at_least v (A + B) (2 * l) × (at_most v (A + B) (2 * l) → E))

  -- everything over the denominator 2 * l: the laws there, and v between 2 * A and 2 * B
  abbrev Low : ℕ → Type 0
  Low x = at_least v x (2 * l)

  abbrev High : ℕ → Type 0
  High x = at_most v x (2 * l)

  lower : (x y : ℕ) → y ≤ x → Low x → Low y
  lower x y h = law.lower x (2 * l) y (2 * l) (omega arith) (mul-le-mul_right (2 * l) h)

  raise : (x y : ℕ) → x ≤ y → High x → High y
  raise x y h = law.raise x (2 * l) y (2 * l) (omega arith) (mul-le-mul_right (2 * l) h)

  order : (x y : ℕ) → Low x → High y → x ≤ y
  order x y g h = le_of_mul-le-mul_right (law.order x (2 * l) y (2 * l) g h) (omega arith)

  from : Low (2 * A)
  from = law.lower A l (2 * A) (2 * l) L (le_of_eq (mul_right_comm 2 A l ∙ mul_comm (2 * l) A)) lo

  to : High (2 * B)
  to = law.raise B l (2 * B) (2 * l) L (le_of_eq (mul_comm B (2 * l) ∙ mul_right_comm 2 l B)) hi

  -- ---- nothing is nearer
  near_A : High (A + B) → (w : ℕ) → (w ≤ A) ⊎ (B ≤ w) → (t : Bool) → Closer v false A t w l
  unfolding Closer
  near_A m w (inl h) false = ((λ (g : A < w). absurd (not-le_of_lt g h)), (λ (g : w < A). lower (2 * A) (A + w) (omega arith) from))
  near_A m w (inr h) false = ((λ (g : A < w). raise (A + B) (A + w) (omega arith) m), (λ (g : w < A). absurd (omega arith)))
  near_A m w h true = lower (2 * A) (A - w) (omega arith) from

  near_B : Low (A + B) → (w : ℕ) → (w ≤ A) ⊎ (B ≤ w) → (t : Bool) → Closer v false B t w l
  unfolding Closer
  near_B m w (inl h) false = ((λ (g : B < w). absurd (omega arith)), (λ (g : w < B). lower (A + B) (B + w) (omega arith) m))
  near_B m w (inr h) false = ((λ (g : B < w). raise (2 * B) (B + w) (omega arith) to), (λ (g : w < B). absurd (not-le_of_lt g h)))
  near_B m w h true = lower (A + B) (B - w) (omega arith) m

  pub near : (r : ℕ) (E : Type 0) → Taken r E → (w : ℕ) → (w ≤ A) ⊎ (B ≤ w) → (t : Bool) → Closer v false r t w l
  near r E (inl k) w h t = subst (λ (z : ℕ). Closer v false z t w l) (sym k.0) (near_A k.1 w h t)
  near r E (inr k) w h t = subst (λ (z : ℕ). Closer v false z t w l) (sym k.0) (near_B k.1 w h t)

  -- ---- where another is as near, v is in the middle, and that other is the other neighbour
  past_A : (w : ℕ) → (w ≤ A) ⊎ (B ≤ w) → (A ≡ w → ⊥) → Closer v false w false A l → (B ≤ w) × Low (w + A)
  unfolding Closer
  past_A w (inl h) d c = absurd (let k : 2 * A ≤ w + A = order (2 * A) (w + A) from (c.0 (omega arith)) in omega arith)
  past_A w (inr h) d c = (h, c.1 (omega arith))

  before_B : (w : ℕ) → (w ≤ A) ⊎ (B ≤ w) → (B ≡ w → ⊥) → Closer v false w false B l → (w ≤ A) × High (w + B)
  unfolding Closer
  before_B w (inl h) d c = (h, c.0 (omega arith))
  before_B w (inr h) d c = absurd (let k : w + B ≤ 2 * B = order (w + B) (2 * B) (c.1 (omega arith)) to in omega arith)

  tie_A : (w : ℕ) → (w ≤ A) ⊎ (B ≤ w) → (t : Bool) → Differ t A w → Closer v t w false A l → Low (A + B)
  unfolding Closer
  tie_A w h false d c = let p = past_A w h d c in lower (w + A) (A + B) (omega arith) p.1
  tie_A w h true d c = let g = c (omega arith) in absurd (let k : 2 * A ≤ A - w = order (2 * A) (A - w) from g.1 in omega arith)

  tie_B : (w : ℕ) → (w ≤ A) ⊎ (B ≤ w) → (t : Bool) → Differ t B w → Closer v t w false B l → High (A + B)
  unfolding Closer
  tie_B w h false d c = let p = before_B w h d c in raise (w + B) (A + B) (omega arith) p.1
  tie_B w h true d c = raise (B - w) (A + B) (omega arith) (c (omega arith)).1

  pub tie : (r : ℕ) (E : Type 0) → Taken r E → (w : ℕ) → (w ≤ A) ⊎ (B ≤ w) → (t : Bool) → Differ t r w → Closer v t w false r l → E
  tie r E (inl k) w h t d c = k.2 (tie_A w h t (subst (λ (z : ℕ). Differ t z w) k.0 d) (subst (λ (z : ℕ). Closer v t w false z l) k.0 c))
  tie r E (inr k) w h t d c = k.2 (tie_B w h t (subst (λ (z : ℕ). Differ t z w) k.0 d) (subst (λ (z : ℕ). Closer v t w false z l) k.0 c))

  pub other : (r : ℕ) (E : Type 0) → Taken r E → (w : ℕ) → (w ≤ A) ⊎ (B ≤ w) → (r ≡ w → ⊥) → Closer v false w false r l → ((r ≡ A) × (w ≡ B)) ⊎ ((r ≡ B) × (w ≡ A))
  other r E (inl k) w h d c =
      let p = past_A w h (subst (λ (z : ℕ). z ≡ w → ⊥) k.0 d) (subst (λ (z : ℕ). Closer v false w false z l) k.0 c) in
      let g : w + A ≤ A + B = order (w + A) (A + B) p.1 k.1 in
      inl (k.0, omega arith)
  other r E (inr k) w h d c =
      let p = before_B w h (subst (λ (z : ℕ). z ≡ w → ⊥) k.0 d) (subst (λ (z : ℕ). Closer v false w false z l) k.0 c) in
      let g : A + B ≤ w + B = order (A + B) (w + B) k.1 p.1 in
      inr (k.0, omega arith)
