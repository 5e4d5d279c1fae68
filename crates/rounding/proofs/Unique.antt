-- The definition of rounding leaves no choice: of a located number there is one rounded value. Two values as near are neighbours, and of two neighbours only one ends in an even digit. Assumes nothing.
use mathlib.Core.Path.{◌≡◌, sym, ap, ◌∙◌, subst}
use mathlib.Core.Logic.{◌⊎◌, inl, inr}
use Prim.Native.Nat.{ℕ, suc, ◌+◌, ◌*◌, ◌%◌, ◌^◌, ◌≤◌, Ordering}
use native.Mathlib.Nat.{le_refl, le-suc, le_trans}
use native.Mathlib.Omega.{arith}
use native.Mathlib.Decide.{ℕ_discrete}
use mathlib.Core.Bool.{Bool, false}
use lib.Dec.{T}
use lib.Pow.{pow_pos}
use lib.Ieee.{Float, Format, prec, low, nearest, units, to_bits, unlike}
use lib.Ieee.Fits.{two, two-le_pos}
use lib.Ieee.Exact.{HasValue}
use lib.Ieee.Positive.{num, den}
use lib.Ieee.Scale.{finite}
use Rattle.ieee.proofs.Units.{bits_of_finite}
use Rattle.rounding.specs.Meaning.{Number, at_least, below, Closer, sign, last, largest, Rounded}
use Rattle.rounding.proofs.Numbers.{Lawful}
use Rattle.rounding.proofs.Neighbours.{other}
use Rattle.rounding.proofs.Values.{split-le, in_units, gap, value_of, value_cross, one_value, unlike_self, units_of_nearer, different, last_digit}
use Rattle.rounding.proofs.Located.{Located, all_digits, step, taken}
use Rattle.rounding.proofs.LocatedRounded.{under, has_value, located_rounded}

module _ (f : Format) (v : Number) (law : Lawful v) (q k : ℕ) (o : Ordering) (at : Located f v q k o) (s : Bool) where
  abbrev z : Float
  z = units f s (nearest q o) k

  abbrev r : ℕ
  r = nearest q o * 2 ^ k

  z_rounded : Rounded f s v z
  z_rounded = located_rounded f v law q k o at s

  module _ (x : Float) (h : Rounded f s v x) (t : T (finite x)) (u : T (finite z)) where
    abbrev w : ℕ
    w = let d = in_units f x h.held t in d.0 * 2 ^ d.1

    x_units : num x * 2 ^ low f ≡ w * den x
    x_units = (in_units f x h.held t).3

    x_value : HasValue x s w (2 ^ low f)
    x_value = value_of x s w (2 ^ low f) t h.signed x_units

    z_value : HasValue z s r (2 ^ low f)
    z_value = has_value f v law q k o at s (under f v law q k o at s u)

    z_units : num z * 2 ^ low f ≡ r * den z
    z_units = value_cross z s r (2 ^ low f) z_value

    outside : (w ≤ q * 2 ^ k) ⊎ (suc q * 2 ^ k ≤ w)
    outside = let d = in_units f x h.held t in gap (prec f) q k d.0 d.1 d.2 (two-le_pos (prec f) (two f)) at.full

    side : (y : Float) → sign y ≡ s → unlike s (sign y) ≡ false
    side y e = ap (unlike s) e ∙ unlike_self s

    x_as_near : Closer v false w false r (2 ^ low f)
    x_as_near =
        subst (λ (b : Bool). Closer v b w false r (2 ^ low f)) (side x h.signed)
        (subst (λ (b : Bool). Closer v (unlike s (sign x)) w b r (2 ^ low f)) (side z z_rounded.signed)
        (units_of_nearer v law (2 ^ low f) w r (pow_pos (low f)) x z x_units z_units s (h.nearest t z z_rounded.held u)))

    -- both end in an even digit, if they are not the same; but one of them is q * 2 ^ k units and the other the next
    digit : (y : Float) (n : ℕ) → HasValue y s (n * 2 ^ k) (2 ^ low f) → q ≤ n → n ≤ suc q → to_bits f y % 2 ≡ 0 → n % 2 ≡ 0
    digit y n e a b g = sym (last_digit f s k n) ∙ sym (ap (λ (i : ℕ). i % 2) (bits_of_finite f y s n k (le_trans b at.small) (all_digits f q k n a at.full) e)) ∙ g

    clash : (r ≡ w → ⊥) → ⊥
    clash d = go (other v law (q * 2 ^ k) (suc q * 2 ^ k) (2 ^ low f) (pow_pos (low f)) (step f v law q k o at) at.least at.most r (nearest q o % 2 ≡ 0) (taken f v law q k o at) w outside d x_as_near)
      where
        x_even : to_bits f x % 2 ≡ 0
        x_even = h.even t z z_rounded.held u (different v law (2 ^ low f) w r (pow_pos (low f)) x z x_units z_units t u (λ (e : w ≡ r). d (sym e))) (z_rounded.nearest u x h.held t)

        z_even : to_bits f z % 2 ≡ 0
        z_even = z_rounded.even u x h.held t (different v law (2 ^ low f) r w (pow_pos (low f)) z x z_units x_units u t d) (h.nearest t z z_rounded.held u)

        at-units : (y : Float) (i j : ℕ) → HasValue y s i (2 ^ low f) → i ≡ j → HasValue y s j (2 ^ low f)
        at-units y i j g e = subst (λ (n : ℕ). HasValue y s n (2 ^ low f)) e g

        not-both : q % 2 ≡ 0 → suc q % 2 ≡ 0 → ⊥
        not-both a b = omega arith

        go : ((r ≡ q * 2 ^ k) × (w ≡ suc q * 2 ^ k)) ⊎ ((r ≡ suc q * 2 ^ k) × (w ≡ q * 2 ^ k)) → ⊥
        go (inl e) = not-both (digit z q (at-units z r (q * 2 ^ k) z_value e.0) (le_refl q) (le-suc q) z_even) (digit x (suc q) (at-units x w (suc q * 2 ^ k) x_value e.1) (le-suc q) (le_refl (suc q)) x_even)
        go (inr e) = not-both (digit x q (at-units x w (q * 2 ^ k) x_value e.1) (le_refl q) (le-suc q) x_even) (digit z (suc q) (at-units z r (suc q * 2 ^ k) z_value e.0) (le-suc q) (le_refl (suc q)) z_even)

    same_finite : x ≡ z
    same_finite = one_value f x z s w h.held z_rounded.held x_value (subst (λ (i : ℕ). HasValue z s i (2 ^ low f)) (same_units (ℕ_discrete r w)) z_value)
      where
        same_units : Dec (r ≡ w) → r ≡ w
        same_units (yes e) = e
        same_units (no d) = absurd (clash d)

  pub located_unique : (x : Float) → Rounded f s v x → x ≡ z
  located_unique x h = go (split-le (v.right (2 * largest f + last f)) (v.left 2))
    where
      go : at_least v (2 * largest f + last f) 2 ⊎ below v (2 * largest f + last f) 2 → x ≡ z
      go (inl g) = h.infinite g ∙ sym (z_rounded.infinite g)
      go (inr g) = same_finite x h (h.bounded g) (z_rounded.bounded g)
