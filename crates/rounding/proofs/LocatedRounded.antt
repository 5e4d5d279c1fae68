-- The value that `nearest` takes for a located number is that number rounded to the format. Assumes nothing.
use mathlib.Core.Path.{◌≡◌, sym, ap, ◌∙◌, subst}
use mathlib.Core.Logic.{◌⊎◌, inl, inr}
use Prim.Native.Nat.{ℕ, suc, ◌*◌, ◌%◌, ◌^◌, ◌≤◌, ◌<◌, Ordering}
use native.Mathlib.Nat.{le_trans, le_of_suc-le-suc, lt_of_not-le, not-le_of_lt}
use mathlib.Core.Bool.{Bool, false}
use lib.Dec.{T}
use lib.Pow.{pow_pos}
use lib.Ieee.{Float, Format, prec, low, nearest, units, fits, to_bits, unlike, ne}
use lib.Ieee.Fits.{two, two-le_pos, nearest-le}
use lib.Ieee.Exact.{HasValue, units_val}
use lib.Ieee.Nearest.{nearest-ge}
use lib.Ieee.Positive.{num, den}
use lib.Ieee.Scale.{finite, overflow}
use Rattle.ieee.proofs.Units.{units-fits, units_over, bits_of_finite}
use Rattle.rounding.specs.Meaning.{Number, Closer, Nearer, sign, Rounded}
use Rattle.rounding.proofs.Numbers.{Lawful, Differ}
use Rattle.rounding.proofs.Neighbours.{near, tie}
use Rattle.rounding.proofs.Values.{split-le, in_units, gap, value_finite, value_sign, value_cross, unlike_self, nearer_of_units, units_of_nearer, units_differ, last_digit}
use Rattle.rounding.proofs.Located.{Located, all_digits, step, taken}
use Rattle.rounding.proofs.Overflow.{reaches, reached}

module _ (f : Format) (v : Number) (law : Lawful v) (q k : ℕ) (o : Ordering) (at : Located f v q k o) (s : Bool) where
  abbrev pub x : Float
  x = units f s (nearest q o) k

  abbrev pub r : ℕ
  r = nearest q o * 2 ^ k

  kept_le : nearest q o ≤ 2 ^ prec f
  kept_le = le_trans (nearest-le q o) at.small

  pub has_value : r < overflow f → HasValue x s r (2 ^ low f)
  has_value = units_val f s (nearest q o) k

  pub under : T (finite x) → r < overflow f
  under t = go (split-le (suc r) (overflow f))
    where
      go : (suc r ≤ overflow f) ⊎ (overflow f < suc r) → r < overflow f
      go (inl h) = h
      go (inr h) = absurd (subst (λ (z : Float). T (finite z)) (units_over f s (nearest q o) k (le_of_suc-le-suc h)) t)

  has_sign : sign x ≡ s
  has_sign = go (split-le (suc r) (overflow f))
    where
      go : (suc r ≤ overflow f) ⊎ (overflow f < suc r) → sign x ≡ s
      go (inl h) = value_sign x s r (2 ^ low f) (has_value h)
      go (inr h) = ap sign (units_over f s (nearest q o) k (le_of_suc-le-suc h))

  own_side : unlike s (sign x) ≡ false
  own_side = ap (unlike s) has_sign ∙ unlike_self s

  -- x is r units, and another value y is no number of units between the neighbours
  module _ (t : T (finite x)) (y : Float) (g : T (fits f y)) (u : T (finite y)) where
    abbrev w : ℕ
    w = let d = in_units f y g u in d.0 * 2 ^ d.1

    x_units : num x * 2 ^ low f ≡ r * den x
    x_units = value_cross x s r (2 ^ low f) (has_value (under t))

    y_units : num y * 2 ^ low f ≡ w * den y
    y_units = (in_units f y g u).3

    outside : (w ≤ q * 2 ^ k) ⊎ (suc q * 2 ^ k ≤ w)
    outside = let d = in_units f y g u in gap (prec f) q k d.0 d.1 d.2 (two-le_pos (prec f) (two f)) at.full

    none_nearer : Nearer v s x y
    none_nearer =
        nearer_of_units v law (2 ^ low f) r w (pow_pos (low f)) x y x_units y_units s
        (subst (λ (b : Bool). Closer v b r (unlike s (sign y)) w (2 ^ low f)) (sym own_side)
        (near v law (q * 2 ^ k) (suc q * 2 ^ k) (2 ^ low f) (pow_pos (low f)) (step f v law q k o at) at.least at.most r (nearest q o % 2 ≡ 0) (taken f v law q k o at) w outside (unlike s (sign y))))

    even-tie : T (ne x y) → Nearer v s y x → to_bits f x % 2 ≡ 0
    even-tie n c =
        ap (λ (z : ℕ). z % 2) (bits_of_finite f x s (nearest q o) k kept_le (all_digits f q k (nearest q o) (nearest-ge q o) at.full) (has_value (under t)))
        ∙ last_digit f s k (nearest q o)
        ∙ tie v law (q * 2 ^ k) (suc q * 2 ^ k) (2 ^ low f) (pow_pos (low f)) (step f v law q k o at) at.least at.most r (nearest q o % 2 ≡ 0) (taken f v law q k o at) w outside (unlike s (sign y))
        (subst (λ (b : Bool). Differ (unlike b (sign y)) r w) has_sign (units_differ v law (2 ^ low f) r w (pow_pos (low f)) x y x_units y_units t u n))
        (subst (λ (b : Bool). Closer v (unlike s (sign y)) w b r (2 ^ low f)) own_side (units_of_nearer v law (2 ^ low f) w r (pow_pos (low f)) y x y_units x_units s c))

  pub located_rounded : Rounded f s v x
  located_rounded = record {
    held = units-fits f s (nearest q o) k kept_le;
    signed = has_sign;
    infinite = λ h. units_over f s (nearest q o) k (reaches f v law q k o at h);
    bounded = λ h. value_finite x s r (2 ^ low f) (has_value (lt_of_not-le (λ (g : overflow f ≤ r). not-le_of_lt h (reached f v law q k o at g))));
    nearest = none_nearer;
    even = even-tie;
  }
