-- Whether the outline and the touch area of a shape are consistent, and if not, why. Definitions only.
use Rattle.std.specs.Prelude.{Bool, true, false, not, ◌&&◌, List, length, ◌/◌, Float, if◌then◌else◌}
use Rattle.std.specs.List.{list_all}
use Rattle.std.specs.Simd.{first_chunks}
use Rattle.std.specs.Float.{binary32}
use Rattle.std.specs.Float.Ieee.{of_bits, le}
use Rattle.ieee.specs.Basic.{abs_of, max_of}
use Rattle.ieee.specs.Binary32.{◌⊗◌, ◌⊘◌, one, two, four}
use Rattle.geometry.specs.declared.Point.{Point}
use Rattle.geometry.specs.Point.{add_of, sub_of, scale_of, shrink_of, abs_point, point_at}
use Rattle.octant.specs.Octant.{point}
use Rattle.quadrant.specs.declared.Quadrant.{Quadrant}
use Rattle.stream.specs.Stream.{all_floats}
use Rattle.conic_writer.specs.Entries.{elements_of}
use Rattle.shape.specs.declared.Bounds.{Bounds}
use Rattle.shape.specs.declared.RoundSuperellipse.{RoundSuperellipse}
use Rattle.containment.specs.Contains.{contains_of}
use Rattle.outline_need.specs.Entries.{outline_entries}
use Rattle.consistency.specs.declared.Verdict.{Verdict}
use Rattle.consistency.specs.declared.Verdict.TheVariants.{Consistent, CenterOutside, MiddleOutside, SidesSmall, CornerOval, OutlineOutside}

-- a point in an area or on its border; a NaN is in none
unfoldable pub within_bounds : Bounds → Point → Bool
within_bounds b p = le b.min.x p.x && le p.x b.max.x && le b.min.y p.y && le p.y b.max.y

-- width and height
unfoldable pub sides_of : Bounds → Point
sides_of b = sub_of b.max b.min

-- ---- 1: each of the four centers lies within the bounds, so that no corner looks the wrong way
unfoldable pub centers_within : Bounds → RoundSuperellipse → Bool
centers_within b s =
    within_bounds b s.top_right.offset
    && within_bounds b s.bottom_right.offset
    && within_bounds b s.bottom_left.offset
    && within_bounds b s.top_left.offset

-- ---- 2: the shape contains the center of its bounds
unfoldable pub center_of : Bounds → Point
center_of b = shrink_of (add_of b.min b.max) two

-- ---- Between neighbouring floats of a magnitude is a step, which is what rounding amounts to there. On an axis it is
-- at most 1/512 of the side where the magnitude is at most 16384 times the side, and at most 1/4096 of the longer side
-- where the magnitude is at most 2048 times that one.
abbrev most_sides : Float
most_sides = of_bits binary32 0x4680_0000  -- 16384.0

unfoldable pub fine_beside_sides : Point → Point → Bool
fine_beside_sides magnitudes sides =
    le magnitudes.x (most_sides ⊗ sides.x) && le magnitudes.y (most_sides ⊗ sides.y)

abbrev most_longer_sides : Float
most_longer_sides = of_bits binary32 0x4500_0000  -- 2048.0

unfoldable pub fine_beside_longer : Point → Point → Bool
fine_beside_longer magnitudes sides =
    let most = most_longer_sides ⊗ max_of sides.x sides.y in
    le magnitudes.x most && le magnitudes.y most

-- the greatest coordinates in magnitude
unfoldable pub reach_of : Bounds → Point
reach_of b = point (max_of (abs_of b.min.x) (abs_of b.max.x)) (max_of (abs_of b.min.y) (abs_of b.max.y))

-- A corner is worked out with equal radii and stretched by its scale, and so are the steps of either side, onto the
-- other axis: there they are as long as those of these magnitudes.
unfoldable pub stretched : Point → Point → Point
stretched sides scale = point (sides.y ⊗ scale.x ⊘ scale.y) (sides.x ⊗ scale.y ⊘ scale.x)

-- The steps of coordinates and corner are fine beside the sides, and beside the longer side both together, the corner's
-- four times, since the curves fit an oval corner less well.
unfoldable pub fine_at : Bounds → Point → Bool
fine_at b scale =
    let sides = sides_of b in
    let corner = stretched sides scale in
    fine_beside_sides (reach_of b) sides
    && fine_beside_sides corner sides
    && fine_beside_longer (add_of (reach_of b) (scale_of corner four)) sides

-- ---- 3: the steps of a corner that is not stretched are fine, and no side is less than the least normal number, below
-- which floats are no closer together
abbrev least_normal : Float
least_normal = of_bits binary32 0x0080_0000  -- 2 ^ -126

unfoldable pub place_fine : Bounds → Bool
place_fine b = fine_at b (point one one) && le least_normal (sides_of b).x && le least_normal (sides_of b).y

-- ---- 4: the steps of each corner are fine
unfoldable pub corner_fine : Bounds → Quadrant → Bool
corner_fine b q = fine_at b (abs_point q.signed_scale)

unfoldable pub corners_fine : Bounds → RoundSuperellipse → Bool
corners_fine b s =
    corner_fine b s.top_right
    && corner_fine b s.bottom_right
    && corner_fine b s.bottom_left
    && corner_fine b s.top_left

-- ---- 5: every point of the outline, controls included, lies within the bounds and 1/128 of each side more on every
-- hand; two floats make a point
abbrev margin_in_side : Float
margin_in_side = of_bits binary32 0x4300_0000  -- 128.0

unfoldable pub widened : Bounds → Bounds
widened b =
    let margin = shrink_of (sides_of b) margin_in_side in
    record { min = sub_of b.min margin; max = add_of b.max margin }

abbrev pub pair_within : Bounds → List Float → Bool
pair_within area pair = within_bounds area (point_at pair 0)

abbrev pub all_within : Bounds → List Float → Bool
all_within area floats = list_all (pair_within area) (first_chunks 2 (length floats / 2) floats)

unfoldable pub outline_within : Bounds → RoundSuperellipse → Bool
outline_within b s = all_within (widened b) (all_floats (elements_of (outline_entries s)))

-- ---- the verdict: the first of the five that does not hold
unfoldable pub verdict_of : Bounds → RoundSuperellipse → Verdict
verdict_of b s =
    if not (centers_within b s) then CenterOutside
    else (if not (contains_of s (center_of b)) then MiddleOutside
    else (if not (place_fine b) then SidesSmall
    else (if not (corners_fine b s) then CornerOval
    else (if not (outline_within b s) then OutlineOutside
    else Consistent))))

unfoldable pub is_consistent : Verdict → Bool
is_consistent Consistent = true
is_consistent CenterOutside = false
is_consistent MiddleOutside = false
is_consistent SidesSmall = false
is_consistent CornerOval = false
is_consistent OutlineOutside = false

unfoldable pub consistent_of : Bounds → RoundSuperellipse → Bool
consistent_of b s = is_consistent (verdict_of b s)
