-- A quick test that finds most points outside a corner: those beyond one of its circular arcs. Definitions only.
use Rattle.std.specs.Prelude.{Bool, not, ◌&&◌, ◌||◌, List, [], ◌∷◌, ℕ, ◌+◌, get_or, Float, if◌then◌else◌}
use Rattle.std.specs.Float.{binary32, nan}
use Rattle.std.specs.Float.Ieee.{add, sub, mul, lt, le}
use Rattle.geometry.specs.declared.Point.{Point}
use Rattle.geometry.specs.Point.{sub_of, div_of, abs_point, distance_squared_of}
use Rattle.ieee.specs.Binary32.{zero}
use Rattle.octant.specs.Octant.{point}
use Rattle.quadrant.specs.declared.Quadrant.{Quadrant}
use Rattle.shape.specs.declared.RoundSuperellipse.{RoundSuperellipse}
use Rattle.quadrant.specs.Quadrant.{square_corner}
use Rattle.containment.specs.declared.QuickReject.{QuickReject}

-- where `octant_contains_of` is sure to answer false by the circle: in the octant, past the circle's start, and
-- outside the circle; d is the squared distance from its center. A point on the circle is left to
-- `octant_contains_of`, and so is every NaN.
unfoldable pub beyond_circle : Float → Float → Float → Float → Float → Bool
beyond_circle x y start d radius = le zero x && lt start x && (le x y && lt radius d)

-- of two points in one vector from two in another, each distance as the second number of a pair: the first is the sum
-- the other way round
unfoldable pub squared_distances : List Float → List Float → List Float
squared_distances p q =
    let d = λ (k : ℕ). sub binary32 (get_or p k nan) (get_or q k nan) in
    let s = λ (k l : ℕ). add binary32 (mul binary32 (d k) (d k)) (mul binary32 (d l) (d l)) in
    s 1 0 ∷ s 0 1 ∷ s 3 2 ∷ s 2 3 ∷ []

-- what the arcs of a quadrant ask of a point: of the top octant, then of the right one, whose x and y are exchanged
unfoldable pub quick_reject_of : Quadrant → QuickReject
quick_reject_of q =
    let top = q.top in
    let right = q.right in
    record {
      offset = q.offset;
      signed_scale = q.signed_scale;
      from = top.offset.x ∷ top.offset.y ∷ right.offset.y ∷ right.offset.x ∷ [];
      center = top.circle_center.x ∷ top.circle_center.y ∷ right.circle_center.x ∷ right.circle_center.y ∷ [];
      bounds =
          top.circle_start.x
          ∷ distance_squared_of top.circle_start top.circle_center
          ∷ right.circle_start.x
          ∷ distance_squared_of right.circle_start right.circle_center
          ∷ [];
      is_round = not (square_corner q);
    }

-- of a point in the quadrant's own space, for the octant whose numbers stand from k on
abbrev pub beyond_arc : List Float → List Float → List Float → ℕ → Point → Bool
beyond_arc from center bounds k n =
    let p = sub_of n (point (get_or from k nan) (get_or from (k + 1) nan)) in
    let d = distance_squared_of p (point (get_or center k nan) (get_or center (k + 1) nan)) in
    beyond_circle p.x p.y (get_or bounds k nan) d (get_or bounds (k + 1) nan)

unfoldable pub beyond_arcs : QuickReject → Point → Bool
beyond_arcs a n =
    let beyond = beyond_arc a.from a.center a.bounds in
    a.is_round && (beyond 0 n || beyond 2 (point n.y n.x))

-- of any point: mirrored into the quadrant where one describes all four, else one of the quadrant's own
unfoldable pub is_surely_outside : QuickReject → Bool → Point → Bool
is_surely_outside a same p =
    let n = div_of (sub_of p a.offset) a.signed_scale in
    if same then beyond_arcs a (abs_point n) else not (lt n.x zero || lt n.y zero) && beyond_arcs a n

-- of the four corners: top right, bottom right, top left, bottom left
unfoldable pub quick_rejects_of : RoundSuperellipse → List QuickReject
quick_rejects_of shape =
    quick_reject_of shape.top_right
    ∷ quick_reject_of shape.bottom_right
    ∷ quick_reject_of shape.top_left
    ∷ quick_reject_of shape.bottom_left
    ∷ []
