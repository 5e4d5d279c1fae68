-- Laws of places: what a shape does to the places of touches, one by one and all together. Assumes nothing.
use mathlib.Core.Path.{◌≡◌, refl, sym, ap, ◌∙◌}
use mathlib.Core.Bool.{Bool, true, false, cond}
use mathlib.Core.List.{List, [], ◌∷◌, map}
use Prim.Native.Nat.{ℕ, zero, suc, ◌+◌, ◌*◌, ◌≤◌, ◌<◌}
use native.Mathlib.Omega.{arith}
use native.Mathlib.Numerals.{add-one}
use borrow.Author.Tests.{ne_eqb, eqb-true}
use lib.Dec.{eqb}
use lib.Ieee.{Float}
use lib.ListN.{length, get_or, set, take, drop, replicate}
use lib.Seq.{drop-cons}
use Rattle.geometry.specs.declared.Point.{Point}
use Rattle.shape.specs.Refusal.{ShapeOutcome}
use Rattle.touch.specs.Touch.{Place, button, nowhere, nowhere_code, code_of, place_of, top_hit, place_from, takes}
use Rattle.touch.specs.Search.{points_in, places_after_shape, places_after_shapes}
use Rattle.touch.proofs.Gathering.{points-length, point_at}

-- ---- places as numbers

pub code_place : (n : ℕ) → code_of (place_of n) ≡ n
unfolding code_of place_of
code_place n = by_test (eqb n nowhere_code) refl
  where
    by_test : (b : Bool) → eqb n nowhere_code ≡ b → code_of (cond b nowhere (button n)) ≡ n
    by_test true e = sym (eqb-true n nowhere_code e)
    by_test false e = refl

-- a place whose index is below the number that stands for none
pub data Below (n : ℕ) : Place → Type 0 where
  at-button : {i : ℕ} → i < n → Below n (button i)
  at_none : Below n nowhere

pub code_most : {pl : Place} → Below nowhere_code pl → code_of pl ≤ nowhere_code
unfolding code_of
code_most (at-button h) = omega arith
code_most at_none = omega arith

pub place_code : {pl : Place} → Below nowhere_code pl → place_of (code_of pl) ≡ pl
unfolding code_of place_of
place_code (at-button {i} h) = rw (ne_eqb i nowhere_code (λ e. omega arith))
place_code at_none = refl

-- ---- one shape and all touches

pub length-places_after_shape : (hit : Point → Bool) (k : ℕ) (ps : List Point) (found : List ℕ) → length (places_after_shape hit k ps found) ≡ length found
unfolding places_after_shape
length-places_after_shape hit k [] found = refl
length-places_after_shape hit k (p ∷ ps) [] = refl
length-places_after_shape hit k (p ∷ ps) (n ∷ found) = ap suc (length-places_after_shape hit k ps found)

-- one touch more
pub places_after_shape-more : (hit : Point → Bool) (k : ℕ) (ps : List Point) (found : List ℕ) (i : ℕ) (d : Point) → i < length ps → i < length found
    → places_after_shape hit k (take (suc i) ps) found
    ≡ set (places_after_shape hit k (take i ps) found) i (code_of (top_hit (place_of (get_or (places_after_shape hit k (take i ps) found) i 0)) k (hit (get_or ps i d))))
unfolding places_after_shape
places_after_shape-more hit k [] found i d h l = absurd (omega arith)
places_after_shape-more hit k (p ∷ ps) [] i d h l = absurd (omega arith)
places_after_shape-more hit k (p ∷ ps) (n ∷ found) zero d h l = refl
places_after_shape-more hit k (p ∷ ps) (n ∷ found) (suc i) d h l =
    ap (λ (ns : List ℕ). code_of (top_hit (place_of n) k (hit p)) ∷ ns) (places_after_shape-more hit k ps found i d (omega arith) (omega arith))

-- the same with the points as floats
pub places_after_shape-floats : (hit : Point → Bool) (k : ℕ) (fs : List Float) (found : List ℕ) (i : ℕ) (d : Float) → length fs ≡ 2 * length found → i < length found →
    let now = places_after_shape hit k (take i (points_in fs)) found in
    let p : Point = record { x = get_or fs (2 * i) d; y = get_or fs (2 * i + 1) d } in
    set now i (code_of (top_hit (place_of (get_or now i 0)) k (hit p))) ≡ places_after_shape hit k (take (i + 1) (points_in fs)) found
places_after_shape-floats hit k fs found i d e h =
    let now = places_after_shape hit k (take i (points_in fs)) found in
    let l = points-length fs (length found) e in
    ap (λ (q : Point). set now i (code_of (top_hit (place_of (get_or now i 0)) k (hit q)))) (sym (point_at fs i d (omega arith)))
    ∙ sym (places_after_shape-more hit k (points_in fs) found i (record { x = d; y = d }) (omega arith) h)
    ∙ ap (λ (n : ℕ). places_after_shape hit k (take n (points_in fs)) found) (sym (add-one i))

top_hit-no : (pl : Place) (k : ℕ) → top_hit pl k false ≡ pl
unfolding top_hit
top_hit-no (button i) k = refl
top_hit-no nowhere k = refl

-- a shape that takes no touch changes no place
pub places_after_shape-none : (hit : Point → Bool) (k : ℕ) (ps : List Point) (found : List ℕ) → ((p : Point) → hit p ≡ false) → places_after_shape hit k ps found ≡ found
unfolding places_after_shape
places_after_shape-none hit k [] found misses = refl
places_after_shape-none hit k (p ∷ ps) [] misses = refl
places_after_shape-none hit k (p ∷ ps) (n ∷ found) misses =
    let e : code_of (top_hit (place_of n) k (hit p)) ≡ n = ap (λ (b : Bool). code_of (top_hit (place_of n) k b)) (misses p) ∙ ap code_of (top_hit-no (place_of n) k) ∙ code_place n in
    let f = places_after_shape-none hit k ps found misses in
    cc

-- nor does any shape where every touch has its button
pub places_after_shape-all : (hit : Point → Bool) (k : ℕ) (ps : List Point) (found : List ℕ) → ((i : ℕ) → i < length found → eqb (get_or found i 0) nowhere_code ≡ false)
    → places_after_shape hit k ps found ≡ found
unfolding places_after_shape code_of place_of top_hit
places_after_shape-all hit k [] found all = refl
places_after_shape-all hit k (p ∷ ps) [] all = refl
places_after_shape-all hit k (p ∷ ps) (n ∷ found) all =
    rw (all 0 (omega arith), places_after_shape-all hit k ps found (λ i h. all (suc i) (omega arith))) refl

-- ---- all shapes and all touches

-- the shape of index i, after those on top of it
pub places_after_shapes-next : (ps : List Point) (ss : List ShapeOutcome) (i : ℕ) (d : ShapeOutcome) (found : List ℕ) → i < length ss
    → places_after_shapes ps i (drop i ss) found ≡ places_after_shape (takes (get_or ss i d)) i ps (places_after_shapes ps (suc i) (drop (suc i) ss) found)
unfolding places_after_shapes
places_after_shapes-next ps ss i d found h = ap (λ (ts : List ShapeOutcome). places_after_shapes ps i ts found) (drop-cons ss i d h)

pub length-places_after_shapes : (ps : List Point) (k : ℕ) (ss : List ShapeOutcome) (found : List ℕ) → length (places_after_shapes ps k ss found) ≡ length found
unfolding places_after_shapes
length-places_after_shapes ps k [] found = refl
length-places_after_shapes ps k (s ∷ ss) found =
    length-places_after_shape (takes s) k ps (places_after_shapes ps (suc k) ss found) ∙ length-places_after_shapes ps (suc k) ss found

-- the touches one by one: no matter whether the shapes or the touches are gone through first
top_hit-below : {n k : ℕ} (b : Bool) {pl : Place} → Below n pl → k < n → Below n (top_hit pl k b)
unfolding top_hit
top_hit-below b (at-button h) l = at-button h
top_hit-below true at_none l = at-button l
top_hit-below false at_none l = at_none

pub place_from-below : (p : Point) {n : ℕ} (k : ℕ) (ss : List ShapeOutcome) → k + length ss ≤ n → Below n (place_from p k ss)
unfolding place_from
place_from-below p k [] l = at_none
place_from-below p k (s ∷ ss) l = top_hit-below (takes s p) (place_from-below p (suc k) ss (omega arith)) (omega arith)

places_after_shapes-none : (k : ℕ) (ss : List ShapeOutcome) → places_after_shapes [] k ss [] ≡ []
unfolding places_after_shapes places_after_shape
places_after_shapes-none k [] = refl
places_after_shapes-none k (s ∷ ss) = rw (places_after_shapes-none (suc k) ss) refl

places_after_shapes-first : (p : Point) (ps : List Point) (k : ℕ) (ss : List ShapeOutcome) (found : List ℕ) → k + length ss ≤ nowhere_code
    → places_after_shapes (p ∷ ps) k ss (nowhere_code ∷ found) ≡ code_of (place_from p k ss) ∷ places_after_shapes ps k ss found
unfolding places_after_shapes places_after_shape place_from code_of
places_after_shapes-first p ps k [] found l = refl
places_after_shapes-first p ps k (s ∷ ss) found l =
    let below : Below nowhere_code (place_from p (suc k) ss) = place_from-below p (suc k) ss (omega arith) in
    rw (places_after_shapes-first p ps (suc k) ss found (omega arith), place_code below) refl

-- the places of all touches, from none on
pub places_after_shapes-places : (ps : List Point) (ss : List ShapeOutcome) → length ss ≤ nowhere_code
    → places_after_shapes ps 0 ss (replicate (length ps) nowhere_code) ≡ map (λ p. code_of (place_from p 0 ss)) ps
places_after_shapes-places [] ss l = places_after_shapes-none 0 ss
places_after_shapes-places (p ∷ ps) ss l =
    places_after_shapes-first p ps 0 ss (replicate (length ps) nowhere_code) (omega arith)
    ∙ ap (λ (ns : List ℕ). code_of (place_from p 0 ss) ∷ ns) (places_after_shapes-places ps ss l)
