-- How a number compares with fractions: three laws, which a fraction and a root have, and what follows from them alone. Assumes nothing.
use mathlib.Core.Path.{◌≡◌, sym, ap, ◌∙◌}
use Prim.Native.Nat.{ℕ, suc, ◌+◌, ◌-◌, ◌*◌, ◌≤◌, ◌<◌}
use native.Mathlib.Nat.{le_trans, le_of_eq, lt_of_lt_of_le, lt_of_le_of_lt, mul_comm, mul_left_comm, mul-mul-mul_comm, mul-le-mul_right, mul-lt-mul_of_pos_right, le_of_mul-le-mul_right, eq_of_mul-eq-mul_right, lt_of_mul-lt-mul_right, mul-pos, add-mul, mul-sub, zero-mul, le_of_suc-le-suc}
use native.Mathlib.Omega.{arith}
use mathlib.Core.Bool.{Bool, true, false}
use lib.Ieee.Positive.{through}
use Rattle.ieee.proofs.Isqrt.{square_le, square-suc, root-lt}
use Rattle.rounding.specs.Meaning.{Number, fraction, root, at_most, at_least, Closer}

-- ---- the laws
pub record Lawful (v : Number) : Type 0 where
  -- v ≤ a / c ≤ b / d
  pub raise : (a c b d : ℕ) → 0 < c → a * d ≤ b * c → at_most v a c → at_most v b d
  -- b / d ≤ a / c ≤ v
  pub lower : (a c b d : ℕ) → 0 < c → b * c ≤ a * d → at_least v a c → at_least v b d
  -- a / c ≤ v ≤ b / d
  pub order : (a c b d : ℕ) → at_least v a c → at_most v b d → a * d ≤ b * c

pub fraction_lawful : (n d : ℕ) → 0 < d → Lawful (fraction n d)
fraction_lawful n d D = record {
  raise = λ a c b e C h g. through n a b d c e C g h;
  lower = λ a c b e C h g. through b a n e c d C h g;
  order = λ a c b e g h. through a n b c d e D g h;
}

-- (a * d) * (a * d) ≤ (b * c) * (b * c), with the squares taken apart
squares : (a c b d : ℕ) → a * d ≤ b * c → a * a * (d * d) ≤ b * b * (c * c)
squares a c b d h = le_trans (le_of_eq (mul-mul-mul_comm a a d d)) (le_trans (square_le h) (le_of_eq (mul-mul-mul_comm b c b c)))

square_back : (x y : ℕ) → x * x ≤ y * y → x ≤ y
square_back x y h = le_of_suc-le-suc (root-lt x (suc y) (let e = square-suc y in omega arith))

pub root_lawful : (n d : ℕ) → 0 < d → Lawful (root n d)
root_lawful n d D = record {
  raise = λ a c b e C h g. through n (a * a) (b * b) d (c * c) (e * e) (mul-pos C C) g (squares a c b e h);
  lower = λ a c b e C h g. through (b * b) (a * a) n (e * e) (c * c) d (mul-pos C C) (squares b e a c h) g;
  order = λ a c b e g h. square_back (a * e) (b * c) (le_trans (le_of_eq (mul-mul-mul_comm a e a e)) (le_trans (through (a * a) n (b * b) (c * c) d (e * e) D g h) (le_of_eq (mul-mul-mul_comm b b c c))));
}

-- ---- one number over two denominators: a / c is r / l
abbrev pub Same : ℕ → ℕ → ℕ → ℕ → Type 0
Same c l a r = a * l ≡ r * c

module _ (c l a r b w : ℕ) (e : Same c l a r) (f : Same c l b w) where
  pub same_sum : Same c l (a + b) (r + w)
  same_sum = let x = add-mul a b l in let y = add-mul r w c in omega arith

  pub same_difference : Same c l (a - b) (r - w)
  same_difference = mul_comm (a - b) l ∙ mul-sub l a b ∙ ap (λ (z : ℕ). z - l * b) (mul_comm l a ∙ e ∙ mul_comm r c) ∙ ap (λ (z : ℕ). c * r - z) (mul_comm l b ∙ f ∙ mul_comm w c) ∙ sym (mul-sub c r w) ∙ mul_comm c (r - w)

  pub same_less : 0 < l → a < b → r < w
  same_less L h = lt_of_mul-lt-mul_right c (lt_of_le_of_lt (le_of_eq (sym e)) (lt_of_lt_of_le (mul-lt-mul_of_pos_right h L) (le_of_eq f)))

  pub same_le : 0 < l → r ≤ w → a ≤ b
  same_le L h = le_of_mul-le-mul_right (le_trans (le_of_eq e) (le_trans (mul-le-mul_right c h) (le_of_eq (sym f)))) L

-- half of it
halved : (c l x y : ℕ) → Same c l x y → x * (2 * l) ≡ y * (2 * c)
halved c l x y e = mul_left_comm x 2 l ∙ ap (λ (z : ℕ). 2 * z) e ∙ mul_left_comm 2 y c

-- which of two numbers is nearer does not change with the denominator
module _ (v : Number) (law : Lawful v) (a b c r w l : ℕ) (C : 0 < c) (L : 0 < l) (e : Same c l a r) (f : Same c l b w) where
  half_raise : (x y : ℕ) → Same c l x y → at_most v y (2 * l) → at_most v x (2 * c)
  half_raise x y h = law.raise y (2 * l) x (2 * c) (omega arith) (le_of_eq (sym (halved c l x y h)))

  half_lower : (x y : ℕ) → Same c l x y → at_least v y (2 * l) → at_least v x (2 * c)
  half_lower x y h = law.lower y (2 * l) x (2 * c) (omega arith) (le_of_eq (halved c l x y h))

  pub closer_over : (p q : Bool) → Closer v p r q w l → Closer v p a q b c
  unfolding Closer
  closer_over false false h = (
    (λ (g : a < b). half_raise (a + b) (r + w) (same_sum c l a r b w e f) (h.0 (same_less c l a r b w e f L g))),
    (λ (g : b < a). half_lower (a + b) (r + w) (same_sum c l a r b w e f) (h.1 (same_less c l b w a r f e L g))),
  )
  closer_over false true h = half_lower (a - b) (r - w) (same_difference c l a r b w e f) h
  closer_over true false h = λ (g : 0 < a + b). let k = h (same_less c l 0 0 (a + b) (r + w) (zero-mul l ∙ sym (zero-mul c)) (same_sum c l a r b w e f) L g) in
      (same_le c l a r b w e f L k.0, half_raise (b - a) (w - r) (same_difference c l b w a r f e) k.1)
  closer_over true true h = same_le c l a r b w e f L h

-- ---- two numbers that are not the same: of one sign they differ in size, of two signs they are not both zero
abbrev pub Differ : Bool → ℕ → ℕ → Type 0
Differ false a b = a ≡ b → ⊥
Differ true a b = 0 < a + b

pub differ_over : (c l a r b w : ℕ) → 0 < l → Same c l a r → Same c l b w → (t : Bool) → Differ t a b → Differ t r w
differ_over c l a r b w L e f false d = λ (g : r ≡ w). d (eq_of_mul-eq-mul_right l L a b (e ∙ ap (λ (z : ℕ). z * c) g ∙ sym f))
differ_over c l a r b w L e f true d = same_less c l 0 0 (a + b) (r + w) (zero-mul l ∙ sym (zero-mul c)) (same_sum c l a r b w e f) L d
