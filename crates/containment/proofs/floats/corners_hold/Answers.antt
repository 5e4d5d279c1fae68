use mathlib.Core.Path.{◌≡◌, ap₂, ◌∙◌}
use mathlib.Core.Bool.{Bool, cond}
use mathlib.Core.List.{List, [], ◌∷◌, ◌++◌, map}
use Prim.Native.Nat.{ℕ, ◌-◌, ◌*◌, ◌%◌, ◌^◌}
use lib.Bits.{bit_or}
use lib.Lanes.{pick_l, zip2, mask_l, top}
use lib.ListN.{get_or, replicate}
use lib.Ieee.{Float, nan, lt, binary32, of_bits}
use Rattle.octant.specs.Octant.{point}
use Rattle.containment.specs.Contains.{norm_contains, corner_contains_of}
use Rattle.shape.specs.Layout.{quadrant_at}
use Rattle.containment.specs.Floats.{asked_hold, corners_hold}
use Rattle.containment.proofs.Asked.{by_lanes}
use Rattle.containment.proofs.floats.corners_hold.Goals as goal

-- the lanes below 0
abbrev below : List Float → List ℕ
below v = zip2 (λ x y. cond (lt x y) 0xffff_ffff 0) v (replicate 4 (of_bits binary32 0))

-- what is answered, from two vectors of points
abbrev held : List Float → List Float → List Float → Bool
held fs a b =
    let x = pick_l nan (a ++ b) (0 ∷ 2 ∷ 4 ∷ 6 ∷ []) in
    let y = pick_l nan (a ++ b) (1 ∷ 3 ∷ 5 ∷ 7 ∷ []) in
    asked_hold (λ k. norm_contains (quadrant_at fs (22 * k)) (point (get_or x k nan) (get_or y k nan))) (15 - mask_l (map (top 31) (zip2 bit_or (below x) (below y))) % 2 ^ 64)

pub returns : goal.returns
unfolding corners_hold corner_contains_of quadrant_at
returns c =
    let e : c.asked_hold.result ≡ held c.args.shape.now c.own_points-a.result c.own_points-b.result = c.asked_hold.ensures in
    e ∙ ap₂ (held c.args.shape.now) c.own_points-a.ensures c.own_points-b.ensures ∙ by_lanes _ _ _ _ _ _ _ _ _
