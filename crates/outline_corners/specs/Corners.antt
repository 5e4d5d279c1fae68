-- The calls that the Rust's `add_to`, `add_quadrant` and `add_octant` make on the path builder, with its names and from
-- `add_octant` upwards. Definitions only.
use Rattle.std.specs.Prelude.{List, [], ◌∷◌, ◌++◌, Bool, true, false, ◌||◌, ℕ, get_or, Float, if◌then◌else◌}
use Rattle.std.specs.Float.{nan}
use Rattle.std.specs.Float.Ieee.{neg}
use Rattle.geometry.specs.declared.Point.{Point}
use Rattle.geometry.specs.Point.{add_of, mul_of}
use Rattle.ieee.specs.Binary32.{◌⊘◌, zero, one}
use Rattle.octant.specs.Octant.{point}
use Rattle.octant.specs.declared.Octant.{Octant}
use Rattle.quadrant.specs.declared.Quadrant.{Quadrant}
use Rattle.quadrant.specs.Quadrant.{square_corner}
use Rattle.shape.specs.declared.RoundSuperellipse.{RoundSuperellipse}
use Rattle.octant_curves.specs.Conics.{superellipse_conics_of}
use Rattle.octant_curves.specs.Circle.{circular_arc_points_of}
use Rattle.octant_curves.specs.Placement.{apply_of}
use Rattle.octant_curves.specs.declared.Placement.{Placement}
use Rattle.calls.specs.declared.Call.{Call}
use Rattle.calls.specs.declared.Call.TheVariants.{LineTo, ConicTo, CubicTo}
use Rattle.outline_corners.specs.declared.Curves.{Curves}

-- what is drawn of an octant, in its own space: the circular arc's four points and the two conics of the superellipse's
-- arc
unfoldable pub curves_of : Octant → Curves
curves_of param =
    record {
      circle = circular_arc_points_of param;
      conics = superellipse_conics_of param (param.circle_start.y ⊘ param.se_a);
    }

-- where an octant is placed
abbrev pub placement_of : Octant → Point → Point → Bool → Placement
placement_of param offset scale flip =
    record { offset = offset; scale = scale; octant_offset = param.offset; flip = flip }

-- one of an array's four points
abbrev pub point_at : List Point → ℕ → Point
point_at ps i = get_or ps i (point nan nan)

-- a conic and a cubic of an octant, placed
unfoldable pub placed_conic : Placement → Point → Point → Float → Call
placed_conic place ctrl to weight = ConicTo (apply_of place ctrl) (apply_of place to) weight

unfoldable pub placed_cubic : Placement → Point → Point → Point → Call
placed_cubic place c0 c1 to = CubicTo (apply_of place c0) (apply_of place c1) (apply_of place to)

-- the two arms of add_octant: curves drawn forwards, and backwards
unfoldable pub forwards_calls : Placement → Curves → List Call
forwards_calls place curves =
    let circle = curves.circle in
    let se = curves.conics in
    placed_conic place se.c1 se.h se.weight1
    ∷ placed_conic place se.c2 se.j se.weight2
    ∷ placed_cubic place (point_at circle 1) (point_at circle 2) (point_at circle 3)
    ∷ []

unfoldable pub backwards_calls : Placement → Curves → List Call
backwards_calls place curves =
    let circle = curves.circle in
    let se = curves.conics in
    placed_cubic place (point_at circle 2) (point_at circle 1) (point_at circle 0)
    ∷ placed_conic place se.c2 se.h se.weight2
    ∷ placed_conic place se.c1 se.a se.weight1
    ∷ []

-- add_octant
unfoldable pub octant_calls : Octant → Point → Point → Bool → Bool → List Call
octant_calls param offset scale reverse flip =
    let place = placement_of param offset scale flip in
    let curves = curves_of param in
    if reverse then backwards_calls place curves else forwards_calls place curves

-- where the second line of a square corner goes
unfoldable pub next_of : Quadrant → Bool → Point
next_of param reverse =
    if reverse then add_of param.top.offset (point zero param.top.se_a)
    else add_of param.right.offset (point param.right.se_a zero)

-- the two arms of add_quadrant: two lines, or two octants, the one drawn second backwards
unfoldable pub square_calls : Quadrant → Bool → Point → List Call
square_calls param reverse scale =
    let corner = add_of param.top.offset (point param.top.se_a param.top.se_a) in
    let next = next_of param reverse in
    LineTo (add_of param.offset (mul_of scale corner)) ∷ LineTo (add_of param.offset (mul_of scale next)) ∷ []

unfoldable pub round_calls : Quadrant → Bool → Point → List Call
round_calls param reverse scale =
    if reverse
    then octant_calls param.right param.offset scale false true ++ octant_calls param.top param.offset scale true false
    else octant_calls param.top param.offset scale false false ++ octant_calls param.right param.offset scale true true

-- a round corner, where the curves of its octants are given
unfoldable pub calls_by_curves : Quadrant → Curves → Curves → Bool → Point → List Call
calls_by_curves param top right reverse scale =
    let from_top = placement_of param.top param.offset scale false in
    let from_right = placement_of param.right param.offset scale true in
    if reverse then forwards_calls from_right right ++ backwards_calls from_top top
    else forwards_calls from_top top ++ backwards_calls from_right right

-- add_quadrant
unfoldable pub corner_calls : Quadrant → Bool → Point → List Call
corner_calls param reverse scale_sign =
    let scale = mul_of param.signed_scale scale_sign in
    if square_corner param then square_calls param reverse scale else round_calls param reverse scale

abbrev minus_one : Float
minus_one = neg one  -- -1.0

-- the four corners of add_to, in order: one quadrant four ways, or four quadrants
unfoldable pub equal_corners : Quadrant → List (List Call)
equal_corners tr =
    corner_calls tr false (point one one)
    ∷ corner_calls tr true (point one minus_one)
    ∷ corner_calls tr false (point minus_one minus_one)
    ∷ corner_calls tr true (point minus_one one)
    ∷ []

unfoldable pub unequal_corners : RoundSuperellipse → List (List Call)
unequal_corners shape =
    corner_calls shape.top_right false (point one one)
    ∷ corner_calls shape.bottom_right true (point one one)
    ∷ corner_calls shape.bottom_left false (point one one)
    ∷ corner_calls shape.top_left true (point one one)
    ∷ []

-- a corner's scale, not reflected
abbrev pub whole_scale : Quadrant → Point
whole_scale param = mul_of param.signed_scale (point one one)

-- a corner of the shape is square
abbrev pub any_square : RoundSuperellipse → Bool
any_square shape =
    square_corner shape.top_right
    || square_corner shape.bottom_right
    || square_corner shape.bottom_left
    || square_corner shape.top_left

unfoldable pub corners_of : RoundSuperellipse → List (List Call)
corners_of shape = if shape.all_corners_same then equal_corners shape.top_right else unequal_corners shape

-- where the outline starts
unfoldable pub start_point : Quadrant → Point
start_point tr = add_of tr.offset (mul_of tr.signed_scale (add_of tr.top.offset (point zero tr.top.se_a)))
