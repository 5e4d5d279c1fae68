-- A point beyond a circular arc of a corner is not in the shape. Assumes nothing.
use mathlib.Core.Path.{◌≡◌, refl, sym, ap, ◌∙◌}
use mathlib.Core.Bool.{Bool, true, false, cond, not, ◌&&◌, ◌||◌, true≢false}
use mathlib.Core.List.{List}
use Rattle.std.proofs.Math.Bool.{and-false}
use Prim.Native.Nat.{ℕ, zero, suc, ◌<◌}
use native.Mathlib.Omega.{arith}
use lib.Ieee.{lt, le}
use Rattle.std.proofs.lemmas.Float as order
use Rattle.ieee.proofs.Tests.{both}
use lib.ListN.{get_or}
use Rattle.geometry.specs.declared.Point.{Point}
use Rattle.geometry.specs.Point.{sub_of, div_of, abs_point, distance_squared_of}
use Rattle.ieee.specs.Binary32.{zero as zero32}
use Rattle.octant.specs.Octant.{point}
use Rattle.octant.specs.declared.Octant.{Octant}
use Rattle.quadrant.specs.declared.Quadrant.{Quadrant}
use Rattle.shape.specs.declared.RoundSuperellipse.{RoundSuperellipse}
use Rattle.shape.proofs.Order.{not_below, not_above}
use Rattle.quadrant.specs.Quadrant.{square_corner}
use Rattle.containment.specs.Contains.{octant_contains_of, round_contains, norm_contains, corner_contains_of, contains_of}
use Rattle.containment.specs.QuickReject.{beyond_circle, quick_reject_of, beyond_arcs, is_surely_outside, quick_rejects_of}
use Rattle.containment.specs.declared.QuickReject.{QuickReject}

-- ---- of Bools
by_circle : (a b c d e s : Bool) → a ≡ false → b ≡ false → c ≡ false → d ≡ false → e ≡ false → cond (a || b || c) true (cond d s e) ≡ false
by_circle a b c d e s f g h i j = rw (f, g, h, i, j) refl

one_of_two : (t r a b : Bool) → (t ≡ true → a ≡ false) → (r ≡ true → b ≡ false) → (t || r) ≡ true → (a && b) ≡ false
one_of_two true r a b f g h = ap (λ (x : Bool). x && b) (f refl)
one_of_two false true a b f g h = ap (λ (x : Bool). a && x) (g refl) ∙ and-false a
one_of_two false false a b f g h = absurd (true≢false (sym h))

second_of : (s b : Bool) → (not s && b) ≡ true → b ≡ true
second_of true b h = absurd (true≢false (sym h))
second_of false b h = h

by_kind : (s b w r : Bool) → r ≡ false → (not s && b) ≡ true → cond s w r ≡ false
by_kind true b w r f h = absurd (true≢false (sym h))
by_kind false b w r f h = f

by_side : (o b i : Bool) → (b ≡ true → i ≡ false) → (not o && b) ≡ true → cond o true i ≡ false
by_side true b i f h = absurd (true≢false (sym h))
by_side false b i f h = f h

-- ---- of one corner
octant_beyond : (o : Octant) (p : Point)
    → beyond_circle p.x p.y o.circle_start.x (distance_squared_of p o.circle_center) (distance_squared_of o.circle_start o.circle_center) ≡ true
    → octant_contains_of o p ≡ false
unfolding beyond_circle octant_contains_of distance_squared_of
octant_beyond o p h =
    let radius = distance_squared_of o.circle_start o.circle_center in
    let d = distance_squared_of p o.circle_center in
    let t = both (le zero32 p.x && lt o.circle_start.x p.x) (le p.x p.y && lt radius d) h in
    let x = both (le zero32 p.x) (lt o.circle_start.x p.x) t.0 in
    let y = both (le p.x p.y) (lt radius d) t.1 in
    let x0 = order.T_from_true _ x.0 in
    let y0 = order.T_from_true _ y.0 in
    by_circle (lt p.x zero32) (lt p.y zero32) (lt p.y p.x) (le p.x o.circle_start.x) (lt d radius) _
    (not_below zero32 p.x x0) (not_below zero32 p.y (order.le_trans zero32 p.x p.y x0 y0)) (not_below p.x p.y y0) (not_above o.circle_start.x p.x (order.T_from_true _ x.1)) (not_below radius d (order.le_of_lt radius d (order.T_from_true _ y.1)))

pub round_beyond : (q : Quadrant) (n : Point) → beyond_arcs (quick_reject_of q) n ≡ true → round_contains q n ≡ false
unfolding quick_reject_of beyond_arcs sub_of round_contains
round_beyond q n h =
    one_of_two _ _ _ _
    (octant_beyond q.top (sub_of n q.top.offset))
    (octant_beyond q.right (point (sub_of n q.right.offset).y (sub_of n q.right.offset).x))
    (second_of (square_corner q) _ h)

norm_beyond : (q : Quadrant) (n : Point) → beyond_arcs (quick_reject_of q) n ≡ true → norm_contains q n ≡ false
unfolding quick_reject_of beyond_arcs norm_contains
norm_beyond q n h = by_kind (square_corner q) _ _ _ (round_beyond q n h) h

corner-beyond : (q : Quadrant) (same : Bool) (p : Point) → is_surely_outside (quick_reject_of q) same p ≡ true → corner_contains_of q p (not same) ≡ false
unfolding is_surely_outside corner_contains_of quick_reject_of
corner-beyond q true p h = norm_beyond q (abs_point (div_of (sub_of p q.offset) q.signed_scale)) h
corner-beyond q false p h =
    let n = div_of (sub_of p q.offset) q.signed_scale in
    by_side (lt n.x zero32 || lt n.y zero32) (beyond_arcs (quick_reject_of q) n) (norm_contains q n) (norm_beyond q n) h

-- ---- of a shape
first_false : (same e a b c d : Bool) → (same ≡ true → e ≡ false) → (same ≡ false → a ≡ false) → cond same e (a && b && c && d) ≡ false
first_false true e a b c d f g = f refl
first_false false e a b c d f g = ap (λ (x : Bool). x && b && c && d) (g refl)

other-false : (same e w : Bool) → (same ≡ true → ⊥) → (same ≡ false → w ≡ false) → cond same e w ≡ false
other-false true e w n g = absurd (n refl)
other-false false e w n g = g refl

second_false : (a b c d : Bool) → b ≡ false → (a && b && c && d) ≡ false
second_false a b c d h = ap (λ (x : Bool). a && x && c && d) h ∙ ap (λ (x : Bool). x && c && d) (and-false a)

third_false : (a b c d : Bool) → c ≡ false → (a && b && c && d) ≡ false
third_false a b c d h = ap (λ (x : Bool). a && b && x && d) h ∙ ap (λ (x : Bool). x && d) (and-false (a && b))

fourth_false : (a b c d : Bool) → d ≡ false → (a && b && c && d) ≡ false
fourth_false a b c d h = ap (λ (x : Bool). a && b && c && x) h ∙ and-false (a && b && c)

module _ (shape : RoundSuperellipse) (p : Point) where
  abbrev same : Bool
  same = shape.all_corners_same

  -- what a corner answers, where all corners are known to be the same or not
  corner_answer : (q : Quadrant) (s : Bool) → is_surely_outside (quick_reject_of q) same p ≡ true → same ≡ s → corner_contains_of q p (not s) ≡ false
  corner_answer q s h e = ap (λ (x : Bool). corner_contains_of q p (not x)) (sym e) ∙ corner-beyond q same p h

  abbrev own : Quadrant → Bool
  own q = corner_contains_of q p true

  in_order : (i : ℕ) (d : QuickReject) → i < 4 → (same ≡ true → i ≡ 0) → is_surely_outside (get_or (quick_rejects_of shape) i d) same p ≡ true → contains_of shape p ≡ false
  unfolding quick_rejects_of contains_of
  in_order zero d l z h = first_false same _ _ _ _ _ (corner_answer shape.top_right true h) (corner_answer shape.top_right false h)
  in_order (suc zero) d l z h = other-false same _ _ (λ e. omega (arith, z e)) (λ e. second_false (own shape.top_right) (own shape.bottom_right) (own shape.bottom_left) (own shape.top_left) (corner_answer shape.bottom_right false h e))
  in_order (suc (suc zero)) d l z h = other-false same _ _ (λ e. omega (arith, z e)) (λ e. fourth_false (own shape.top_right) (own shape.bottom_right) (own shape.bottom_left) (own shape.top_left) (corner_answer shape.top_left false h e))
  in_order (suc (suc (suc zero))) d l z h = other-false same _ _ (λ e. omega (arith, z e)) (λ e. third_false (own shape.top_right) (own shape.bottom_right) (own shape.bottom_left) (own shape.top_left) (corner_answer shape.bottom_left false h e))
  in_order (suc (suc (suc (suc i)))) d l z h = absurd (omega arith)

  pub shape-beyond : (arcs : List QuickReject) (i : ℕ) (d : QuickReject) → arcs ≡ quick_rejects_of shape → i < 4 → (same ≡ true → i ≡ 0) → is_surely_outside (get_or arcs i d) same p ≡ true → contains_of shape p ≡ false
  shape-beyond arcs i d e l z h = in_order i d l z (ap (λ (x : List QuickReject). is_surely_outside (get_or x i d) same p) (sym e) ∙ h)
