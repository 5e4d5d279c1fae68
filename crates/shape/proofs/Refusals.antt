-- When making a shape is refused, and with which number. Assumes nothing.
use mathlib.Core.Path.{◌≡◌, refl, ap}
use mathlib.Core.Bool.{Bool, true, false, cond, ◌||◌, true≢false}
use Prim.Native.Nat.{ℕ}
use native.Mathlib.Omega.{arith}
use lib.Dec.{T}
use lib.Ieee.{Float, nan, inf, fin, of_bits, neg, lt, le, eq, is_nan}
use Rattle.std.specs.Float.{NotNan}
use Rattle.std.proofs.lemmas.Bool.{or_from, or_parts}
use Rattle.std.proofs.lemmas.Float as order
use Rattle.ieee.proofs.Tests.{none_of_four}
use Rattle.ieee.specs.Basic.{abs_of}
use Rattle.ieee.specs.Binary32.{zero}
use Rattle.geometry.specs.declared.Point.{Point}
use Rattle.shape.specs.Shape.{shape_of}
use Rattle.shape.specs.Refusal.{limit, any_corner, beyond_limit, point_beyond, bounds_beyond, radii_beyond, point_below, radii_below, inverted, ShapeOutcome, made, refused, new_of}
use Rattle.shape.specs.Laws.{IsInRange, IsNotNegative, OfBoth, OfFour, IsWithinLimits, MadeWithinLimits, GreatestIsWithinLimits, beyond, TwoIfBeyond, ThreeIfNegative, FourIfInverted, LimitPasses, NextIsBeyond, NotFiniteIsBeyond, MinusZeroIsNotBelow}
use Rattle.shape.specs.declared.Bounds.{Bounds}
use Rattle.shape.specs.declared.CornerRadii.{CornerRadii}
use Rattle.shape.specs.declared.RoundSuperellipse.{RoundSuperellipse}
use Rattle.shape.proofs.Order.{not_below}

abbrev cause_of : ShapeOutcome → ℕ
cause_of (made s) = 0
cause_of (refused n) = n

-- ---- over three tests: the answer says which of them held first
abbrev choice : Bool → Bool → Bool → RoundSuperellipse → ShapeOutcome
choice a b c s = cond a (refused 2) (cond b (refused 3) (cond c (refused 4) (made s)))

module _ (s : RoundSuperellipse) where
  first : (a b c : Bool) → choice a b c s ≡ refused 2 → a ≡ true
  first true b c e = refl
  first false true c e = absurd (let n = ap cause_of e in omega arith)
  first false false true e = absurd (let n = ap cause_of e in omega arith)
  first false false false e = absurd (let n = ap cause_of e in omega arith)

  second : (a b c : Bool) → choice a b c s ≡ refused 3 → (a ≡ false) × (b ≡ true)
  second true b c e = absurd (let n = ap cause_of e in omega arith)
  second false true c e = (refl, refl)
  second false false true e = absurd (let n = ap cause_of e in omega arith)
  second false false false e = absurd (let n = ap cause_of e in omega arith)

  third : (a b c : Bool) → choice a b c s ≡ refused 4 → (a ≡ false) × (b ≡ false) × (c ≡ true)
  third true b c e = absurd (let n = ap cause_of e in omega arith)
  third false true c e = absurd (let n = ap cause_of e in omega arith)
  third false false true e = (refl, refl, refl)
  third false false false e = absurd (let n = ap cause_of e in omega arith)

  none : (a b c : Bool) → choice a b c s ≡ made s → (a ≡ false) × (b ≡ false) × (c ≡ false)
  none true b c e = absurd (let n = ap cause_of e in omega arith)
  none false true c e = absurd (let n = ap cause_of e in omega arith)
  none false false true e = absurd (let n = ap cause_of e in omega arith)
  none false false false e = (refl, refl, refl)

pub two_if_beyond : TwoIfBeyond
unfolding new_of
two_if_beyond bounds radii = (first (shape_of bounds radii) (beyond bounds radii) (radii_below radii) (inverted bounds), λ h. rw h)

pub three_if_negative : ThreeIfNegative
unfolding new_of
three_if_negative bounds radii = (second (shape_of bounds radii) (beyond bounds radii) (radii_below radii) (inverted bounds), λ h. rw (h.0, h.1))

pub four_if_inverted : FourIfInverted
unfolding new_of
four_if_inverted bounds radii = (third (shape_of bounds radii) (beyond bounds radii) (radii_below radii) (inverted bounds), λ h. rw (h.0, h.1, h.2))

-- ---- what is within the limits is what no test refuses
no_four : (a b c d : Bool) → a ≡ false → b ≡ false → c ≡ false → d ≡ false → (a || b || c || d) ≡ false
no_four a b c d e f g h = rw (e, f, g, h) refl

passes : (x : Float) → IsInRange x → beyond_limit x ≡ false
unfolding beyond_limit abs_of le lt eq of_bits
passes nan h = absurd h
passes (inf s) h = absurd h
passes (fin s m e) h = not_below (fin false m e) limit h

in_range : (x : Float) → beyond_limit x ≡ false → IsInRange x
unfolding beyond_limit abs_of is_nan of_bits
in_range nan h = absurd (true≢false h)
in_range (inf s) h = absurd (true≢false h)
in_range (fin s m e) h = order.le_of_not-lt limit (fin false m e) tt tt (order.T_from_false _ h)

number : (x : Float) → IsInRange x → NotNan x
unfolding abs_of is_nan le lt eq
number nan h = absurd h
number (inf s) h = tt
number (fin s m e) h = tt

not_negative : (x : Float) → NotNan x → lt x zero ≡ false → IsNotNegative x
unfolding is_nan of_bits
not_negative x n h = order.le_of_not-lt x zero n tt (order.T_from_false _ h)

in_order : (x y : Float) → NotNan x → NotNan y → lt y x ≡ false → T (le x y)
in_order x y n m h = order.le_of_not-lt y x m n (order.T_from_false _ h)

point_passes : (p : Point) → OfBoth IsInRange p → point_beyond p ≡ false
unfolding point_beyond
point_passes p h = or_from _ _ (passes p.x h.0) (passes p.y h.1)

point_in_range : (p : Point) → point_beyond p ≡ false → OfBoth IsInRange p
unfolding point_beyond
point_in_range p h = let n = or_parts (beyond_limit p.x) (beyond_limit p.y) h in (in_range p.x n.0, in_range p.y n.1)

point_not_below : (p : Point) → OfBoth IsNotNegative p → point_below p ≡ false
unfolding point_below
point_not_below p h = or_from _ _ (not_below zero p.x h.0) (not_below zero p.y h.1)

point_not_negative : (p : Point) → OfBoth IsInRange p → point_below p ≡ false → OfBoth IsNotNegative p
unfolding point_below
point_not_negative p r h =
    let n = or_parts (lt p.x zero) (lt p.y zero) h in
    (not_negative p.x (number p.x r.0) n.0, not_negative p.y (number p.y r.1) n.1)

no_corner : (has : Point → Bool) (P : Point → Type 0) → ((p : Point) → P p → has p ≡ false) → (r : CornerRadii) → OfFour P r → any_corner has r ≡ false
unfolding any_corner
no_corner has P f r h = no_four _ _ _ _ (f r.top_left h.0) (f r.top_right h.1) (f r.bottom_left h.2) (f r.bottom_right h.3)

within_made : (bounds : Bounds) (radii : CornerRadii) → IsWithinLimits bounds radii → new_of bounds radii ≡ made (shape_of bounds radii)
unfolding new_of bounds_beyond radii_beyond radii_below inverted
within_made bounds radii h =
    let b : beyond bounds radii ≡ false = or_from _ _ (or_from _ _ (point_passes bounds.min h.min) (point_passes bounds.max h.max)) (no_corner point_beyond (OfBoth IsInRange) point_passes radii h.corners) in
    let n : radii_below radii ≡ false = no_corner point_below (OfBoth IsNotNegative) point_not_below radii h.not_negative in
    let i : inverted bounds ≡ false = or_from _ _ (not_below bounds.min.x bounds.max.x h.across) (not_below bounds.min.y bounds.max.y h.down) in
    rw (b, n, i)

made_within : (bounds : Bounds) (radii : CornerRadii) → new_of bounds radii ≡ made (shape_of bounds radii) → IsWithinLimits bounds radii
unfolding new_of bounds_beyond radii_beyond radii_below inverted any_corner
made_within bounds radii e =
    let t = none (shape_of bounds radii) (beyond bounds radii) (radii_below radii) (inverted bounds) e in
    let b = or_parts (bounds_beyond bounds) (radii_beyond radii) t.0 in
    let c = or_parts (point_beyond bounds.min) (point_beyond bounds.max) b.0 in
    let r = none_of_four (point_beyond radii.top_left) (point_beyond radii.top_right) (point_beyond radii.bottom_left) (point_beyond radii.bottom_right) b.1 in
    let n = none_of_four (point_below radii.top_left) (point_below radii.top_right) (point_below radii.bottom_left) (point_below radii.bottom_right) t.1 in
    let i = or_parts (lt bounds.max.x bounds.min.x) (lt bounds.max.y bounds.min.y) t.2 in
    let min = point_in_range bounds.min c.0 in
    let max = point_in_range bounds.max c.1 in
    let tl = point_in_range radii.top_left r.0 in
    let tr = point_in_range radii.top_right r.1 in
    let bl = point_in_range radii.bottom_left r.2 in
    let br = point_in_range radii.bottom_right r.3 in
    record {
      min = min;
      max = max;
      corners = (tl, tr, bl, br);
      not_negative = (point_not_negative radii.top_left tl n.0, point_not_negative radii.top_right tr n.1, point_not_negative radii.bottom_left bl n.2, point_not_negative radii.bottom_right br n.3);
      across = in_order bounds.min.x bounds.max.x (number bounds.min.x min.0) (number bounds.max.x max.0) i.0;
      down = in_order bounds.min.y bounds.max.y (number bounds.min.y min.1) (number bounds.max.y max.1) i.1;
    }

pub made_within_limits : MadeWithinLimits
made_within_limits bounds radii = (made_within bounds radii, within_made bounds radii)

pub greatest-is_within_limits : GreatestIsWithinLimits
unfolding abs_of neg le lt eq of_bits
greatest-is_within_limits = record {
  min = (tt, tt);
  max = (tt, tt);
  corners = ((tt, tt), (tt, tt), (tt, tt), (tt, tt));
  not_negative = ((tt, tt), (tt, tt), (tt, tt), (tt, tt));
  across = tt;
  down = tt;
}

-- ---- at the borders
pub limit-passes : LimitPasses
unfolding beyond_limit abs_of lt neg of_bits
limit-passes = (refl, refl)

pub next-is_beyond : NextIsBeyond
unfolding beyond_limit abs_of lt of_bits
next-is_beyond = refl

pub not_finite-is_beyond : NotFiniteIsBeyond
unfolding beyond_limit
not_finite-is_beyond = (refl, λ s. refl)

pub minus_zero-is_not_below : MinusZeroIsNotBelow
unfolding lt neg of_bits
minus_zero-is_not_below = refl
