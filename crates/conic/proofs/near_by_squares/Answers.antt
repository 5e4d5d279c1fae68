use mathlib.Core.Path.{◌≡◌, ◌∙◌}
use mathlib.Core.Bool.{Bool}
use lib.Ieee.{Float, binary32, mul, lt}
use Rattle.std.proofs.lemmas.Float.{T_from_true}
use Rattle.geometry.specs.declared.Point.{Point}
use Rattle.geometry.specs.Point.{length_squared_of}
use Rattle.conic.specs.Conic.{near_of}
use Rattle.conic.proofs.Squares.{squared_fits, squared_unsigned}
use Rattle.conic.proofs.Near.{less, more, near, far}
use Rattle.lanes.proofs.Masks.{first_32}
use Rattle.conic.proofs.Vectors.{OneOf, first-is, first_lane, second_lane, one_each}
use Rattle.conic.proofs.near_by_squares.Goals as goal

-- one half, whose middles are p apart and whose chord is q
module _ (p q : Point) where
  abbrev distance : Float
  distance = length_squared_of p

  abbrev chord : Float
  chord = length_squared_of q

  abbrev below : Bool
  below = lt distance (mul binary32 less chord)

  abbrev above : Bool
  above = lt (mul binary32 more chord) distance

  below-is : OneOf below above → below ≡ near_of distance chord
  below-is one =
      first-is below above (near_of distance chord) one
      (λ e. near distance chord (squared_fits p) (squared_fits q) (squared_unsigned p) (squared_unsigned q) (T_from_true below e))
      (λ e. far distance chord (squared_fits p) (squared_fits q) (squared_unsigned p) (squared_unsigned q) (T_from_true above e))

pub returns-then-decided : goal.returns-then-decided
returns-then-decided c h e =
    let n = c.nearness_from_bits.ensures in
    let o = one_each _ _ _ _ (simp first_32 at (rw e at (c.if-decided.true))) in
    (rw (n.left, e) (first_lane _ _ _ _ ∙ first_32 _ ∙ below-is _ _ o.0), rw (n.right, e) (second_lane _ _ _ _ ∙ first_32 _ ∙ below-is _ _ o.1))

pub returns : goal.returns
returns c h e =
    let n = c.nearness_from_bits-2.ensures in
    let r = c.near_by_roots.ensures in
    (rw (n.left, r.left, e), rw (n.right, r.right, e))
