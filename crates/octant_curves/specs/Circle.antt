-- The cubic that the Rust draws a circular arc with: start, two controls, end. Definitions only.
use Rattle.std.specs.Prelude.{List, [], ◌∷◌, Float}
use Rattle.std.specs.Float.Ieee.{neg}
use Rattle.geometry.specs.declared.Point.{Point}
use Rattle.geometry.specs.Point.{add_of, sub_of, scale_of, length_of, normalize_of}
use Rattle.trigonometry.specs.Sine.{sin_cos_of, tan_of}
use Rattle.ieee.specs.Binary32.{◌⊕◌, ◌⊖◌, ◌⊗◌, ◌⊘◌, three, four}
use Rattle.octant.specs.Octant.{point}
use Rattle.octant.specs.declared.Octant.{Octant}

-- the points, by the sine and cosine of minus the arc's angle and the tangent of a quarter of it
unfoldable pub arc_points_of : Octant → Float → Float → Float → List Point
arc_points_of param sin cos tan =
    let start = param.circle_start in
    let start_vector = sub_of start param.circle_center in
    let end_x = start_vector.x ⊗ cos ⊖ start_vector.y ⊗ sin in
    let end_y = start_vector.x ⊗ sin ⊕ start_vector.y ⊗ cos in
    let end_vector = point end_x end_y in
    let circle_end = add_of param.circle_center end_vector in
    let start_tangent = normalize_of (point start_vector.y (neg start_vector.x)) in
    let end_tangent = normalize_of (point (neg end_vector.y) end_vector.x) in
    let bezier_factor = tan ⊗ four ⊘ three in
    let radius = length_of start_vector in
    start
    ∷ add_of start (scale_of (scale_of start_tangent bezier_factor) radius)
    ∷ add_of circle_end (scale_of (scale_of end_tangent bezier_factor) radius)
    ∷ circle_end
    ∷ []

-- circular_arc_points
unfoldable pub circular_arc_points_of : Octant → List Point
circular_arc_points_of param =
    let turn = sin_cos_of (neg param.circle_max_angle) in
    let tan = tan_of (param.circle_max_angle ⊘ four) in
    arc_points_of param turn.sin turn.cos tan
