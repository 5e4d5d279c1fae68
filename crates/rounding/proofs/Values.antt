-- The values of a format, counted in units of its smallest one: each is a whole number of units with at most `prec` digits and zeros after them, so between two neighbours there is none.
-- A value is known by its number of units and its sign. Assumes nothing.
use mathlib.Core.Path.{◌≡◌, refl, sym, ap, ◌∙◌, subst}
use mathlib.Core.Logic.{◌⊎◌, inl, inr}
use Prim.Native.Nat.{ℕ, zero, suc, ◌+◌, ◌-◌, ◌*◌, ◌/◌, ◌%◌, ◌^◌, ◌≤◌, ◌<◌}
use native.Mathlib.Nat.{le_trans, le_of_eq, le_antisymm, le_of_lt, lt_of_lt_of_le, lt_of_le_of_lt, lt_of_not-le, lt_irrefl, lt-suc_self, eq-zero-or-pos, mul-one, mul_comm, mul_assoc, mul_left_comm, pow-succ', mul-pos, lt_of_mul-lt-mul_right, mul-lt-mul_of_pos_right, mul-le-mul_right, mul_right_comm, zero-mul, le-div_iff_mul-le}
use native.Mathlib.Omega.{arith}
use mathlib.Core.Bool.{Bool, true, false, not, ◌&&◌, ◌||◌, beq, cond}
use lib.IntN.{ℤ, pos, negsuc}
use lib.Dec.{T, leb, ltb, eqb, leb→le, nleb→lt, ltb→lt, T_not, not_T, eqb→eq}
use lib.Pow.{pow-add, pow_pos, pow_mono, pow-lt}
use lib.Ieee.{Float, nan, inf, fin, Format, prec, emax, low, up, down, size, fits, hid, ones, top, of_bits, unlike, level, ne}
use lib.Ieee.Digits.{size_reaches}
use lib.Ieee.Fits.{two, eq→eqb, and_i, and_l, and_r, down_pos}
use lib.Ieee.Exact.{HasValue}
use lib.Ieee.Bits.{of_bits-to_bits}
use lib.Ieee.Positive.{num, den, den_pos, through}
use lib.Ieee.Scale.{finite, overflow}
use Rattle.ieee.proofs.Units.{bits_of_value}
use Rattle.rounding.specs.Meaning.{Number, Closer, sign, Nearer}
use Rattle.rounding.proofs.Numbers.{Lawful, Same, closer_over, Differ, differ_over}

pub split-le : (a b : ℕ) → (a ≤ b) ⊎ (b < a)
split-le a b = go (leb a b) (leb→le a b) (nleb→lt a b)
  where
    go : (t : Bool) → (T t → a ≤ b) → (T (not t) → b < a) → (a ≤ b) ⊎ (b < a)
    go true x y = inl (x tt)
    go false x y = inr (y tt)

-- ---- a value of the format, in units
pub in_units : (f : Format) (y : Float) → T (fits f y) → T (finite y) → (p : ℕ) × (j : ℕ) × (p < 2 ^ prec f) × (num y * 2 ^ low f ≡ p * 2 ^ j * den y)
unfolding fits
in_units f nan h t = absurd t
in_units f (inf s) h t = absurd t
in_units f (fin s zero d) h t = (zero, zero, pow_pos (prec f), ap (λ (z : ℕ). z * 2 ^ low f) (zero-mul (up d)) ∙ zero-mul (2 ^ low f) ∙ sym (zero-mul (down d)))
in_units f (fin s (suc n) d) h t =
    let x = eqb (suc n % 2) 1 in
    let y = ltb (suc n) (2 ^ prec f) in
    let z = leb (down d) (2 ^ low f) in
    let w = ltb (suc n * up d) (2 ^ suc (emax f) * down d) in
    place d (ltb→lt (suc n) (2 ^ prec f) (and_r x y (and_l (x && y) z (and_l (x && y && z) w h)))) (leb→le (down d) (2 ^ low f) (and_r (x && y) z (and_l (x && y && z) w h)))
  where
    place : (d : ℤ) → suc n < 2 ^ prec f → down d ≤ 2 ^ low f → (p : ℕ) × (j : ℕ) × (p < 2 ^ prec f) × (suc n * up d * 2 ^ low f ≡ p * 2 ^ j * down d)
    place (pos a) l g = (suc n, a + low f, l, mul_assoc (suc n) (2 ^ a) (2 ^ low f) ∙ ap (λ (z : ℕ). suc n * z) (sym (pow-add 2 a (low f))) ∙ sym (mul-one (suc n * 2 ^ (a + low f))))
    place (negsuc a) l g =
        let h : suc a ≤ low f = lt_of_not-le (λ (i : low f ≤ a). lt_irrefl (2 ^ low f) (lt_of_lt_of_le (lt_of_le_of_lt (pow_mono i) (pow-lt (lt-suc_self a))) g)) in
        let e : low f - suc a + suc a ≡ low f = omega arith in (
          suc n,
          low f - suc a,
          l,
          ap (λ (z : ℕ). z * 2 ^ low f) (mul-one (suc n)) ∙ ap (λ (z : ℕ). suc n * z) (ap (λ (z : ℕ). 2 ^ z) (sym e) ∙ pow-add 2 (low f - suc a) (suc a)) ∙ sym (mul_assoc (suc n) (2 ^ (low f - suc a)) (2 ^ suc a)),
        )

pub fits_under : (f : Format) (y : Float) → T (fits f y) → T (finite y) → num y < 2 ^ suc (emax f) * den y
unfolding fits
fits_under f nan h t = absurd t
fits_under f (inf s) h t = absurd t
fits_under f (fin s zero d) h t = subst (λ (z : ℕ). z < 2 ^ suc (emax f) * down d) (sym (zero-mul (up d))) (mul-pos (pow_pos (suc (emax f))) (down_pos d))
fits_under f (fin s (suc n) d) h t =
    ltb→lt (suc n * up d) (2 ^ suc (emax f) * down d) (and_r (eqb (suc n % 2) 1 && ltb (suc n) (2 ^ prec f) && leb (down d) (2 ^ low f)) (ltb (suc n * up d) (2 ^ suc (emax f) * down d)) h)

pub units_under : (f : Format) (y : Float) (w : ℕ) → T (fits f y) → T (finite y) → num y * 2 ^ low f ≡ w * den y → w < overflow f
units_under f y w h t e =
    lt_of_mul-lt-mul_right (den y)
    (lt_of_le_of_lt (le_of_eq (sym e))
    (lt_of_lt_of_le (mul-lt-mul_of_pos_right (fits_under f y h t) (pow_pos (low f)))
    (le_of_eq (mul_right_comm (2 ^ suc (emax f)) (den y) (2 ^ low f) ∙ ap (λ (z : ℕ). z * den y) (mul_comm (2 ^ suc (emax f)) (2 ^ low f) ∙ sym (pow-add 2 (low f) (suc (emax f))))))))

-- ---- nothing of at most w digits lies between q * 2 ^ k and the next
pub gap : (w q k p j : ℕ) → p < 2 ^ w → 0 < w → (2 ^ (w - 1) ≤ q) ⊎ (k ≡ 0) → (p * 2 ^ j ≤ q * 2 ^ k) ⊎ (suc q * 2 ^ k ≤ p * 2 ^ j)
gap w q k p j small W full = by (split-le k j) full
  where
    -- p * 2 ^ j is a multiple of 2 ^ k
    coarse : k ≤ j → (p * 2 ^ j ≤ q * 2 ^ k) ⊎ (suc q * 2 ^ k ≤ p * 2 ^ j)
    coarse h = subst (λ (y : ℕ). (y ≤ q * 2 ^ k) ⊎ (suc q * 2 ^ k ≤ y)) e (of (split-le (p * 2 ^ (j - k)) q))
      where
        back : j - k + k ≡ j
        back = omega arith

        e : p * 2 ^ (j - k) * 2 ^ k ≡ p * 2 ^ j
        e = mul_assoc p (2 ^ (j - k)) (2 ^ k) ∙ ap (λ (z : ℕ). p * z) (sym (pow-add 2 (j - k) k) ∙ ap (λ (z : ℕ). 2 ^ z) back)

        of : (p * 2 ^ (j - k) ≤ q) ⊎ (q < p * 2 ^ (j - k)) → (p * 2 ^ (j - k) * 2 ^ k ≤ q * 2 ^ k) ⊎ (suc q * 2 ^ k ≤ p * 2 ^ (j - k) * 2 ^ k)
        of (inl a) = inl (mul-le-mul_right (2 ^ k) a)
        of (inr a) = inr (mul-le-mul_right (2 ^ k) a)

    -- p * 2 ^ j is below 2 ^ (w - 1 + k)
    fine : j < k → 2 ^ (w - 1) ≤ q → p * 2 ^ j ≤ q * 2 ^ k
    fine h g =
        let i : w + j ≤ w - 1 + k = omega arith in
        le_trans (mul-le-mul_right (2 ^ j) (le_of_lt small))
        (le_trans (le_of_eq (sym (pow-add 2 w j))) (le_trans (pow_mono i) (le_trans (le_of_eq (pow-add 2 (w - 1) k)) (mul-le-mul_right (2 ^ k) g))))

    none : k ≡ 0 → j < k → ⊥
    none e h = omega arith

    by : (k ≤ j) ⊎ (j < k) → (2 ^ (w - 1) ≤ q) ⊎ (k ≡ 0) → (p * 2 ^ j ≤ q * 2 ^ k) ⊎ (suc q * 2 ^ k ≤ p * 2 ^ j)
    by (inl h) z = coarse h
    by (inr h) (inl g) = inl (fine h g)
    by (inr h) (inr e) = absurd (none e h)

-- of a whole number r the w leading digits, where it has more
pub kept_full : (w r : ℕ) → 0 < w → (2 ^ (w - 1) ≤ r / 2 ^ (size r - w)) ⊎ (size r - w ≡ 0)
kept_full w r W = elim (eq-zero-or-pos (size r - w)) [
  | inl z ↦ inr z
  | inr g ↦
      let k = size r - w in
      let i : w - 1 + k < size r = omega arith in
      inl ((le-div_iff_mul-le (pow_pos k)).1 (le_trans (le_of_eq (sym (pow-add 2 (w - 1) k))) (size_reaches r (w - 1 + k) i)))
]

-- ---- what `HasValue` says, by the sign and the fraction
pub value_finite : (x : Float) (s : Bool) (a c : ℕ) → HasValue x s a c → T (finite x)
value_finite nan s a c v = v
value_finite (inf t) s a c v = v
value_finite (fin t m e) s a c v = tt

pub value_sign : (x : Float) (s : Bool) (a c : ℕ) → HasValue x s a c → sign x ≡ s
value_sign nan s a c v = absurd v
value_sign (inf t) s a c v = absurd v
value_sign (fin t m e) s a c v = v.0

pub value_cross : (x : Float) (s : Bool) (a c : ℕ) → HasValue x s a c → num x * c ≡ a * den x
value_cross nan s a c v = absurd v
value_cross (inf t) s a c v = absurd v
value_cross (fin t m e) s a c v = v.1

pub value_of : (x : Float) (s : Bool) (a c : ℕ) → T (finite x) → sign x ≡ s → num x * c ≡ a * den x → HasValue x s a c
value_of nan s a c t g e = absurd t
value_of (inf u) s a c t g e = absurd t
value_of (fin u m d) s a c t g e = (g, e)

-- by another fraction
pub rescaled : (x : Float) (s : Bool) (a c w l : ℕ) → 0 < c → a * l ≡ w * c → HasValue x s a c → HasValue x s w l
rescaled x s a c w l C e v =
    let g = value_cross x s a c v in
    value_of x s w l (value_finite x s a c v) (value_sign x s a c v)
    (le_antisymm (through (num x) a w (den x) c l C (le_of_eq g) (le_of_eq e)) (through w a (num x) l c (den x) C (le_of_eq (sym e)) (le_of_eq (sym g))))

-- ---- the lowest bit of a pattern is that of the digits
pub last_digit : (f : Format) (s : Bool) (k n : ℕ) → (cond s (top f) 0 + (k * hid f + n)) % 2 ≡ n % 2
last_digit f s k n =
    let h = 2 ^ (prec f - 2) in
    let e : hid f ≡ 2 * h = ap (λ (z : ℕ). 2 ^ z) (back (prec f) (two f)) ∙ pow-succ' 2 (prec f - 2) in
    let a : k * hid f ≡ 2 * (k * h) = ap (λ (z : ℕ). k * z) e ∙ mul_left_comm k 2 h in
    let b : top f ≡ 2 * (h * suc (ones f)) = ap (λ (z : ℕ). z * suc (ones f)) e ∙ mul_assoc 2 h (suc (ones f)) in
    go s a b
  where
    back : (p : ℕ) → 2 ≤ p → p - 1 ≡ suc (p - 2)
    back p g = omega arith

    go : (s : Bool) → k * hid f ≡ 2 * (k * 2 ^ (prec f - 2)) → top f ≡ 2 * (2 ^ (prec f - 2) * suc (ones f)) → (cond s (top f) 0 + (k * hid f + n)) % 2 ≡ n % 2
    go true a b = omega arith
    go false a b = omega arith

pub unlike_self : (s : Bool) → unlike s s ≡ false
unlike_self true = refl
unlike_self false = refl

-- ---- a value is known by its sign and its units
pub one_value : (f : Format) (x y : Float) (s : Bool) (a : ℕ) → T (fits f x) → T (fits f y) → HasValue x s a (2 ^ low f) → HasValue y s a (2 ^ low f) → x ≡ y
one_value f x y s a h g v w = sym (of_bits-to_bits f x h) ∙ ap (of_bits f) (bits_of_value f x s a v ∙ sym (bits_of_value f y s a w)) ∙ of_bits-to_bits f y g

-- ---- what `x != y` says of two finite values
across : (a b : ℕ) → T (not (eqb a b && eqb a 0)) → 0 < a + b
across a b n = elim (eq-zero-or-pos (a + b)) [
  | inl z ↦
      let e : a ≡ b = omega arith in
      let g : a ≡ 0 = omega arith in
      absurd (T_not (eqb a b && eqb a 0) n (and_i (eqb a b) (eqb a 0) (eq→eqb e) (eq→eqb g)))
  | inr g ↦ g
]

level_differ : (s t : Bool) (a b : ℕ) → T (not (level s a t b)) → Differ (unlike s t) a b
level_differ true true a b n = λ (e : a ≡ b). T_not (eqb a b && true) n (and_i (eqb a b) true (eq→eqb e) tt)
level_differ false false a b n = λ (e : a ≡ b). T_not (eqb a b && true) n (and_i (eqb a b) true (eq→eqb e) tt)
level_differ true false a b n = across a b n
level_differ false true a b n = across a b n

differ : (x y : Float) → T (finite x) → T (finite y) → T (ne x y) → Differ (unlike (sign x) (sign y)) (num x * den y) (num y * den x)
unfolding ne
differ nan y fx fy n = absurd fx
differ (inf s) y fx fy n = absurd fx
differ (fin s m e) nan fx fy n = absurd fy
differ (fin s m e) (inf t) fx fy n = absurd fy
differ (fin s m e) (fin t k d) fx fy n = level_differ s t (m * up e * down d) (k * up d * down e) n

pub ne_of : (x y : Float) → T (finite x) → T (finite y) → (num x * den y ≡ num y * den x → ⊥) → T (ne x y)
unfolding ne
ne_of nan y fx fy n = absurd fx
ne_of (inf s) y fx fy n = absurd fx
ne_of (fin s m e) nan fx fy n = absurd fy
ne_of (fin s m e) (inf t) fx fy n = absurd fy
ne_of (fin s m e) (fin t k d) fx fy n =
    not_T (level s (m * up e * down d) t (k * up d * down e)) (λ g. n (eqb→eq (m * up e * down d) (k * up d * down e) (and_l (eqb (m * up e * down d) (k * up d * down e)) (beq s t || eqb (m * up e * down d) 0) g)))

-- ---- two finite values, x of r units and y of w
module _ (v : Number) (law : Lawful v) (l r w : ℕ) (L : 0 < l) (x y : Float) (xr : num x * l ≡ r * den x) (yw : num y * l ≡ w * den y) where
  x_over : Same (den x * den y) l (num x * den y) r
  x_over = mul_right_comm (num x) (den y) l ∙ ap (λ (z : ℕ). z * den y) xr ∙ mul_assoc r (den x) (den y)

  y_over : Same (den x * den y) l (num y * den x) w
  y_over = mul_right_comm (num y) (den x) l ∙ ap (λ (z : ℕ). z * den x) yw ∙ mul_assoc w (den y) (den x) ∙ ap (λ (z : ℕ). w * z) (mul_comm (den y) (den x))

  both-pos : 0 < den x * den y
  both-pos = mul-pos (den_pos x) (den_pos y)

  pub nearer_of_units : (s : Bool) → Closer v (unlike s (sign x)) r (unlike s (sign y)) w l → Nearer v s x y
  unfolding Nearer
  nearer_of_units s = closer_over v law (num x * den y) (num y * den x) (den x * den y) r w l both-pos L x_over y_over (unlike s (sign x)) (unlike s (sign y))

  pub units_of_nearer : (s : Bool) → Nearer v s x y → Closer v (unlike s (sign x)) r (unlike s (sign y)) w l
  unfolding Nearer
  units_of_nearer s = closer_over v law r w l (num x * den y) (num y * den x) (den x * den y) L both-pos (sym x_over) (sym y_over) (unlike s (sign x)) (unlike s (sign y))

  pub units_differ : T (finite x) → T (finite y) → T (ne x y) → Differ (unlike (sign x) (sign y)) r w
  units_differ fx fy n = differ_over (den x * den y) l (num x * den y) r (num y * den x) w L x_over y_over (unlike (sign x) (sign y)) (differ x y fx fy n)

  pub different : T (finite x) → T (finite y) → (r ≡ w → ⊥) → T (ne x y)
  different fx fy n = ne_of x y fx fy (differ_over l (den x * den y) r (num x * den y) w (num y * den x) both-pos (sym x_over) (sym y_over) false n)
