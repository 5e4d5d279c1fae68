-- The Rust's outline of a shape, the end of superellipse.rs with what it stands on: in its words and in its order, on
-- the Rust's PathBuilder. Of this repository it takes the records of a point, an octant, a quadrant and a shape, and
-- the functions of f32. Definitions only.
use Rattle.std.specs.Prelude.{List, [], ◌∷◌, Bool, true, false, ◌||◌, ℕ, ◌+◌, min, pos, get_or, Float, if◌then◌else◌}
use Rattle.std.specs.Float.{binary32, nan}
use Rattle.std.specs.Float.Ieee.{of_bits, of_int, to_unsigned, neg, lt, le}
use Rattle.ieee.specs.Binary32.{◌⊕◌, ◌⊖◌, ◌⊗◌, ◌⊘◌, zero, one, two, three, four}
use Rattle.ieee.specs.Basic.{abs_of, clamp_of}
use Rattle.exponential.specs.Power.{pow_of}
use Rattle.trigonometry.specs.Sine.{sin_cos_of, tan_of}
use Rattle.geometry.specs.declared.Point.{Point}
use Rattle.octant.specs.declared.Octant.{Octant}
use Rattle.quadrant.specs.declared.Quadrant.{Quadrant}
use Rattle.shape.specs.declared.RoundSuperellipse.{RoundSuperellipse}
use Rattle.rust_builder.specs.PathBuilder.{sqrt, vec2, ◌⊞◌, ◌⊟◌, ◌⊠◌, ◌·◌, ◌÷◌, vec2_length, vec2_normalize, PathBuilder, move_to, line_to, cubic_to, conic_to, close}

-- CLOSE_ENOUGH
abbrev pub close_enough : Float
close_enough = of_bits binary32 0x3a83_126f  -- 1e-3

-- CONIC_TABLE, and its entry at a row and a column
abbrev pub row : ℕ → ℕ → List Float
row a b = of_bits binary32 a ∷ of_bits binary32 b ∷ []

abbrev pub conic_table : List (List Float)
conic_table =
    row 0x3f35_3261 0x4105_1c43  -- n = 2.0: 0.7078, 8.3194
    ∷ row 0x3f4a_1cac 0x401c_f27c  -- n = 3.0: 0.7895, 2.4523
    ∷ row 0x3f56_809d 0x3fed_288d  -- n = 4.0: 0.8379, 1.8528
    ∷ row 0x3f5e_bee0 0x3fd8_346e  -- n = 5.0: 0.8701, 1.6891
    ∷ row 0x3f64_a8c1 0x3fca_511a  -- n = 6.0: 0.8932, 1.5806
    ∷ row 0x3f69_23a3 0x3fc0_8ce7  -- n = 7.0: 0.9107, 1.5043
    ∷ row 0x3f6c_a57a 0x3fb9_374c  -- n = 8.0: 0.9244, 1.4470
    ∷ row 0x3f6f_7cee 0x3fb3_ac71  -- n = 9.0: 0.9355, 1.4037
    ∷ row 0x3f71_de6a 0x3faf_5f70  -- n = 10.0: 0.9448, 1.3701
    ∷ row 0x3f73_dd98 0x3fab_eab3  -- n = 11.0: 0.9526, 1.3431
    ∷ row 0x3f75_9b3d 0x3fa9_1d15  -- n = 12.0: 0.9594, 1.3212
    ∷ row 0x3f77_1de7 0x3fa6_cf42  -- n = 13.0: 0.9653, 1.3032
    ∷ row 0x3f78_72b0 0x3fa4_dd2f  -- n = 14.0: 0.9705, 1.2880
    ∷ []

unfoldable pub table_entry : ℕ → ℕ → Float
table_entry left column = get_or (get_or conic_table left []) column nan

-- ---- the conics of an octant

-- STEP, MIN_N, and the number of the table's rows less one
abbrev pub step : Float
step = one  -- 1.0

abbrev pub min_n : Float
min_n = two  -- 2.0

abbrev pub last_row : Float
last_row = of_bits binary32 0x4140_0000  -- 12.0

-- weight1, weight2 and yh_proportion. `steps.floor() as usize` is the whole part of steps, which the clamp keeps from
-- 0 to 12; a NaN's is 0.
unfoldable pub superellipse_conic_factors : Float → Float → Float × Float × Float
superellipse_conic_factors n xj_over_a =
    let max_n = min_n ⊕ last_row ⊗ step in
    let n1 = if le max_n n then max_n else n in
    let steps = clamp_of ((n1 ⊖ min_n) ⊘ step) zero last_row in
    let left = min (to_unsigned 64 steps) 11 in
    let frac = steps ⊖ of_int binary32 (pos left) in
    let weight1 = (one ⊖ frac) ⊗ table_entry left 0 ⊕ frac ⊗ table_entry (left + 1) 0 ⊗ sqrt n1 in
    let weight2 = (one ⊖ frac) ⊗ table_entry left 1 ⊕ frac ⊗ table_entry (left + 1) 1 ⊗ xj_over_a in
    let yh_proportion = sqrt n1 in
    (weight1, weight2, yh_proportion)

unfoldable pub intersection : Point → Float → Point → Float → Point
intersection p1 k1 p2 k2 =
    if lt (abs_of (k1 ⊖ k2)) close_enough then (p1 ⊞ p2) ÷ two
    else (let x = (k1 ⊗ p1.x ⊖ k2 ⊗ p2.x ⊕ p2.y ⊖ p1.y) ⊘ (k1 ⊖ k2) in
    vec2 x (k1 ⊗ (x ⊖ p1.x) ⊕ p1.y))

pub record SuperellipseConics : Type 0 where
  pub a : Point
  pub c1 : Point
  pub h : Point
  pub weight1 : Float
  pub c2 : Point
  pub j : Point
  pub weight2 : Float

unfoldable pub superellipse_conics : Octant → Float → SuperellipseConics
superellipse_conics param yj_over_a =
    let a_point = vec2 zero param.se_a in
    let j = param.circle_start in
    let factors = superellipse_conic_factors param.se_n (j.x ⊘ param.se_a) in
    let yh_proportion = factors.2 in
    let yh_over_a = (one ⊗ yh_proportion ⊕ yj_over_a) ⊘ (yh_proportion ⊕ one) in
    let h_x = pow_of (one ⊖ pow_of yh_over_a param.se_n) (one ⊘ param.se_n) ⊗ param.se_a in
    let h = vec2 h_x (yh_over_a ⊗ param.se_a) in
    let k_a = zero in
    let k_j = neg (pow_of (j.x ⊘ j.y) (param.se_n ⊖ one)) in
    let k_h = neg (pow_of (h.x ⊘ h.y) (param.se_n ⊖ one)) in
    record {
      a = a_point;
      c1 = intersection a_point k_a h k_h;
      h = h;
      weight1 = factors.0;
      c2 = intersection h k_h j k_j;
      j = j;
      weight2 = factors.1;
    }

-- ---- the circular arc: start, two controls, end

unfoldable pub circular_arc_points : Octant → Point × Point × Point × Point
circular_arc_points param =
    let start_vector = param.circle_start ⊟ param.circle_center in
    let turn = sin_cos_of (neg param.circle_max_angle) in
    let end_x = start_vector.x ⊗ turn.cos ⊖ start_vector.y ⊗ turn.sin in
    let end_y = start_vector.x ⊗ turn.sin ⊕ start_vector.y ⊗ turn.cos in
    let end_vector = vec2 end_x end_y in
    let circle_end = param.circle_center ⊞ end_vector in
    let start_tangent = vec2_normalize (vec2 start_vector.y (neg start_vector.x)) in
    let end_tangent = vec2_normalize (vec2 (neg end_vector.y) end_vector.x) in
    let bezier_factor = tan_of (param.circle_max_angle ⊘ four) ⊗ four ⊘ three in
    let radius = vec2_length start_vector in
    let c1 = param.circle_start ⊞ start_tangent · bezier_factor · radius in
    let c2 = circle_end ⊞ end_tangent · bezier_factor · radius in
    (param.circle_start, c1, c2, circle_end)

-- ---- Placement

pub record Placement : Type 0 where
  pub offset : Point
  pub scale : Point
  pub octant_offset : Point
  pub flip : Bool

unfoldable pub apply : Placement → Point → Point
apply place p =
    let p1 = if place.flip then vec2 p.y p.x else p in
    place.offset ⊞ place.scale ⊠ (place.octant_offset ⊞ p1)

-- ---- the outline

unfoldable pub add_octant : PathBuilder → Octant → Point → Point → Bool → Bool → PathBuilder
add_octant b param offset scale reverse flip =
    let place : Placement = record { offset = offset; scale = scale; octant_offset = param.offset; flip = flip } in
    let circle = circular_arc_points param in
    let se = superellipse_conics param (param.circle_start.y ⊘ param.se_a) in
    if reverse
    then (let b1 = cubic_to b (apply place circle.2) (apply place circle.1) (apply place circle.0) in
    let b2 = conic_to b1 (apply place se.c2) (apply place se.h) se.weight2 in
    conic_to b2 (apply place se.c1) (apply place se.a) se.weight1)
    else (let b1 = conic_to b (apply place se.c1) (apply place se.h) se.weight1 in
    let b2 = conic_to b1 (apply place se.c2) (apply place se.j) se.weight2 in
    cubic_to b2 (apply place circle.1) (apply place circle.2) (apply place circle.3))

unfoldable pub add_quadrant : PathBuilder → Quadrant → Bool → Point → PathBuilder
add_quadrant b param reverse scale_sign =
    let scale = param.signed_scale ⊠ scale_sign in
    if lt param.top.se_n two || lt param.right.se_n two
    then (let corner = param.top.offset ⊞ vec2 param.top.se_a param.top.se_a in
    let b1 = line_to b (param.offset ⊞ scale ⊠ corner) in
    let on_top = param.top.offset ⊞ vec2 zero param.top.se_a in
    let on_right = param.right.offset ⊞ vec2 param.right.se_a zero in
    let next = if reverse then on_top else on_right in
    line_to b1 (param.offset ⊞ scale ⊠ next))
    else (if reverse
    then (let b1 = add_octant b param.right param.offset scale false true in
    add_octant b1 param.top param.offset scale true false)
    else (let b1 = add_octant b param.top param.offset scale false false in
    add_octant b1 param.right param.offset scale true true))

abbrev pub minus_one : Float
minus_one = neg one  -- -1.0

unfoldable pub add_to : RoundSuperellipse → PathBuilder → PathBuilder
add_to shape b =
    let tr = shape.top_right in
    let start = tr.offset ⊞ tr.signed_scale ⊠ (tr.top.offset ⊞ vec2 zero tr.top.se_a) in
    let b1 = move_to b start in
    let b2 =
    if shape.all_corners_same
    then (let c1 = add_quadrant b1 tr false (vec2 one one) in
    let c2 = add_quadrant c1 tr true (vec2 one minus_one) in
    let c3 = add_quadrant c2 tr false (vec2 minus_one minus_one) in
    add_quadrant c3 tr true (vec2 minus_one one))
    else (let c1 = add_quadrant b1 shape.top_right false (vec2 one one) in
    let c2 = add_quadrant c1 shape.bottom_right true (vec2 one one) in
    let c3 = add_quadrant c2 shape.bottom_left false (vec2 one one) in
    add_quadrant c3 shape.top_left true (vec2 one one))
    in
    close (line_to b2 start)
