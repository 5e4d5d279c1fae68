-- A touch goes to the last button that takes it. Assumes nothing.
use mathlib.Core.Path.{◌≡◌, refl}
use mathlib.Core.Bool.{Bool, true, false}
use mathlib.Core.List.{List, [], ◌∷◌}
use Prim.Native.Nat.{ℕ, zero, suc, ◌+◌, ◌<◌}
use native.Mathlib.Omega.{arith}
use lib.ListN.{length, get_or}
use Rattle.geometry.specs.declared.Point.{Point}
use Rattle.shape.specs.Refusal.{ShapeOutcome, refused}
use Rattle.touch.specs.Touch.{Place, button, nowhere, top_hit, place_from, shapes_of, takes, place_among}
use Rattle.touch.specs.Laws.{GoesToTheLast, GoesNowhereIfLeft}

abbrev hits : List ShapeOutcome → Point → ℕ → Bool
hits ss p i = takes (get_or ss i (refused 0)) p

-- the shape that a touch goes to among those from index k on: it takes the touch, and none behind it does
record Found (p : Point) (k : ℕ) (ss : List ShapeOutcome) (i : ℕ) : Type 0 where
  offset : ℕ
  place : i ≡ k + offset
  within : offset < length ss
  takes_it : hits ss p offset ≡ true
  last : (j : ℕ) → offset < j → hits ss p j ≡ false

-- by what was found on top, and by whether the shape takes the touch
module _ (p : Point) (k : ℕ) (s : ShapeOutcome) (ss : List ShapeOutcome) where
  left_by : (q : Place) (b : Bool) → takes s p ≡ b → (q ≡ nowhere → (j : ℕ) → hits ss p j ≡ false) → top_hit q k b ≡ nowhere → (j : ℕ) → hits (s ∷ ss) p j ≡ false
  unfolding top_hit
  left_by (button m) b g none h j = let z : ◌≡◌ {A = ℕ} 0 1 = cc in absurd (omega arith)
  left_by nowhere true g none h j = let z : ◌≡◌ {A = ℕ} 0 1 = cc in absurd (omega arith)
  left_by nowhere false g none h zero = g
  left_by nowhere false g none h (suc j) = none refl j

  behind : (m : ℕ) → ((j : ℕ) → m < j → hits ss p j ≡ false) → (j : ℕ) → suc m < j → hits (s ∷ ss) p j ≡ false
  behind m h zero l = absurd (omega arith)
  behind m h (suc j) l = h j (omega arith)

  all_behind : ((j : ℕ) → hits ss p j ≡ false) → (j : ℕ) → 0 < j → hits (s ∷ ss) p j ≡ false
  all_behind h zero l = absurd (omega arith)
  all_behind h (suc j) l = h j

  found_by : (q : Place) (b : Bool) (i : ℕ) → takes s p ≡ b → (q ≡ button i → Found p (suc k) ss i) → (q ≡ nowhere → (j : ℕ) → hits ss p j ≡ false) → top_hit q k b ≡ button i → Found p k (s ∷ ss) i
  unfolding top_hit
  found_by (button m) b i g some none h =
      let w = some h in
      record {
        offset = suc w.offset;
        place = omega (arith, w.place);
        within = omega (arith, w.within);
        takes_it = w.takes_it;
        last = behind w.offset w.last;
      }
  found_by nowhere true i g some none h =
      let same : i ≡ k = cc in
      record {
        offset = 0;
        place = omega arith;
        within = omega arith;
        takes_it = g;
        last = all_behind (none refl);
      }
  found_by nowhere false i g some none h = let z : ◌≡◌ {A = ℕ} 0 1 = cc in absurd (omega arith)

none_left : (p : Point) (k : ℕ) (ss : List ShapeOutcome) → place_from p k ss ≡ nowhere → (j : ℕ) → hits ss p j ≡ false
unfolding place_from takes
none_left p k [] e j = refl
none_left p k (s ∷ ss) e j = left_by p k s ss (place_from p (suc k) ss) (takes s p) refl (none_left p (suc k) ss) e j

found : (p : Point) (k : ℕ) (ss : List ShapeOutcome) (i : ℕ) → place_from p k ss ≡ button i → Found p k ss i
unfolding place_from
found p k [] i e = let z : ◌≡◌ {A = ℕ} 0 1 = cc in absurd (omega arith)
found p k (s ∷ ss) i e =
    found_by p k s ss (place_from p (suc k) ss) (takes s p) i refl (found p (suc k) ss i) (none_left p (suc k) ss) e

pub goes_to_the_last : GoesToTheLast
unfolding place_among
goes_to_the_last rs p i e =
    let w = found p 0 (shapes_of rs) i e in
    let same : i ≡ w.offset = omega (arith, w.place) in
    rw same ((w.within, w.takes_it), w.last)

pub goes_nowhere_if_left : GoesNowhereIfLeft
unfolding place_among
goes_nowhere_if_left rs p i e = none_left p 0 (shapes_of rs) e i
