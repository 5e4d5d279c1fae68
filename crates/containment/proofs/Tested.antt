-- What the vectors of the quick test hold. Assumes nothing.
use mathlib.Core.Path.{◌≡◌, refl, sym, ap₂, ◌∙◌}
use mathlib.Core.Bool.{Bool, true, false, cond, not, ◌&&◌, ◌||◌}
use mathlib.Core.List.{List, [], ◌∷◌, ◌++◌, map}
use Prim.Native.Nat.{ℕ, ◌/◌, ◌%◌, ◌^◌}
use mir.Syntax.{w32}
use lib.Bits.{bit_and}
use lib.Dec.{eqb}
use lib.Lanes.{zip2, pick_l, mask_l, top}
use lib.ListN.{length, replicate}
use lib.Ieee.{Float, nan, binary32, add, sub, mul, lt, le}
use Rattle.lanes.proofs.Masks.{mask, both_first}
use Rattle.std.proofs.Math.Bool.{and-true, and-false}
use Rattle.lanes.proofs.Places.{four_lanes}
use Rattle.geometry.specs.declared.Point.{Point}
use Rattle.geometry.specs.Point.{sub_of, distance_squared_of, length_squared_of}
use Rattle.octant.specs.Octant.{point}
use Rattle.ieee.specs.Binary32.{zero}
use Rattle.containment.specs.QuickReject.{squared_distances, beyond_circle, beyond_arc}

-- ---- two distances at once, as the code works them out
unfoldable pub distances_of : List Float → List Float → List Float
distances_of p q =
    let apart = zip2 (sub binary32) p q in
    let squares = zip2 (mul binary32) apart apart in
    zip2 (add binary32) (pick_l nan (squares ++ squares) (1 ∷ 0 ∷ 3 ∷ 2 ∷ [])) squares

distances_of_lanes : (a b c d e f g h : Float) → distances_of (a ∷ b ∷ c ∷ d ∷ []) (e ∷ f ∷ g ∷ h ∷ []) ≡ squared_distances (a ∷ b ∷ c ∷ d ∷ []) (e ∷ f ∷ g ∷ h ∷ [])
unfolding distances_of squared_distances
distances_of_lanes a b c d e f g h = refl

pub distances : (p q : List Float) → length p ≡ 4 → length q ≡ 4 → distances_of p q ≡ squared_distances p q
distances p q e f = ap₂ distances_of (four_lanes nan p e) (four_lanes nan q f) ∙ distances_of_lanes _ _ _ _ _ _ _ _ ∙ sym (ap₂ squared_distances (four_lanes nan p e) (four_lanes nan q f))

-- ---- both bits of a pair
abbrev paired : ℕ → Bool
paired bits = not (eqb (bit_and (bit_and bits (bits / 2)) 5) 0)

pairs : (a b c d : Bool) → paired (mask_l (a ∷ b ∷ c ∷ d ∷ []) % 2 ^ 64) ≡ (a && b || c && d)
pairs true true true true = refl
pairs true true true false = refl
pairs true true false true = refl
pairs true true false false = refl
pairs true false true true = refl
pairs true false true false = refl
pairs true false false true = refl
pairs true false false false = refl
pairs false true true true = refl
pairs false true true false = refl
pairs false true false true = refl
pairs false true false false = refl
pairs false false true true = refl
pairs false false true false = refl
pairs false false false true = refl
pairs false false false false = refl

swapped : (a b : Bool) → cond b a false ≡ (a && b)
swapped a true = sym (and-true a)
swapped a false = sym (and-false a)

lane : (a b : Bool) → top 31 (bit_and (mask w32 a) (mask w32 b)) ≡ (a && b)
lane a b = both_first a b ∙ swapped a b

paired_lanes : (a b c d e f g h : Bool)
    → paired (mask_l (top 31 (bit_and (mask w32 a) (mask w32 b)) ∷ top 31 (bit_and (mask w32 c) (mask w32 d)) ∷ top 31 (bit_and (mask w32 e) (mask w32 f)) ∷ top 31 (bit_and (mask w32 g) (mask w32 h)) ∷ []) % 2 ^ 64)
    ≡ (((a && b) && (c && d)) || ((e && f) && (g && h)))
paired_lanes a b c d e f g h = rw (lane a b, lane c d, lane e f, lane g h) (pairs (a && b) (c && d) (e && f) (g && h))

-- ---- the whole test
abbrev Lanes : Type 0
Lanes = List Float

-- a point in both octants' spaces
abbrev pub own : Lanes → Point → Lanes
own from n = zip2 (sub binary32) (n.x ∷ n.y ∷ n.y ∷ n.x ∷ []) from

-- as the code makes it, of the squared distances d
unfoldable pub tested : Lanes → Lanes → Point → Lanes → Bool
tested from bounds n d =
    let ordered = zip2 (λ x y. mask w32 (le x y)) (pick_l nan (replicate 4 zero ++ own from n) (0 ∷ 4 ∷ 2 ∷ 6 ∷ [])) (own from n) in
    let past = zip2 (λ x y. mask w32 (lt x y)) bounds (pick_l nan (own from n ++ d) (0 ∷ 5 ∷ 2 ∷ 7 ∷ [])) in
    paired (mask_l (map (top 31) (zip2 bit_and ordered past)) % 2 ^ 64)

-- as the definition has it
abbrev pub by_definition : Lanes → Lanes → Lanes → Point → Bool
by_definition from center bounds n = beyond_arc from center bounds 0 n || beyond_arc from center bounds 2 (point n.y n.x)

tested_lanes : (n : Point) (a b c d e f g h i j k l : Float)
    → tested (a ∷ b ∷ c ∷ d ∷ []) (i ∷ j ∷ k ∷ l ∷ []) n (squared_distances (own (a ∷ b ∷ c ∷ d ∷ []) n) (e ∷ f ∷ g ∷ h ∷ [])) ≡ by_definition (a ∷ b ∷ c ∷ d ∷ []) (e ∷ f ∷ g ∷ h ∷ []) (i ∷ j ∷ k ∷ l ∷ []) n
unfolding tested squared_distances beyond_circle sub_of distance_squared_of length_squared_of
tested_lanes n a b c d e f g h i j k l =
    let p = sub_of n (point a b) in
    let q = sub_of (point n.y n.x) (point c d) in
    paired_lanes (le zero p.x) (lt i p.x) (le p.x p.y) (lt j (distance_squared_of p (point e f))) (le zero q.x) (lt k q.x) (le q.x q.y) (lt l (distance_squared_of q (point g h)))

pub tested-is : (from center bounds : Lanes) (n : Point) → length from ≡ 4 → length center ≡ 4 → length bounds ≡ 4 → tested from bounds n (squared_distances (own from n) center) ≡ by_definition from center bounds n
tested-is from center bounds n e f g =
    let p = four_lanes nan from e in
    let q = four_lanes nan center f in
    let r = four_lanes nan bounds g in
    (λ i. tested (p i) (r i) n (squared_distances (own (p i) n) (q i))) ∙ tested_lanes n _ _ _ _ _ _ _ _ _ _ _ _ ∙ sym (λ i. by_definition (p i) (q i) (r i) n)
