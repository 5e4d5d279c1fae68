-- The Rust's add_to, add_quadrant and add_octant make the calls of `outline_calls`.
use mathlib.Core.Path.{◌≡◌, refl, sym, ap, ◌∙◌}
use mathlib.Core.List.{List, [], ◌∷◌, ◌++◌, flatten}
use mathlib.Core.Bool.{Bool, true, false, cond}
use lib.Ieee.{Float}
use Rattle.ieee.specs.Binary32.{◌⊘◌, zero, one}
use Rattle.geometry.specs.declared.Point.{Point}
use Rattle.geometry.specs.Point.{add_of, sub_of, mul_of, scale_of, shrink_of, length_squared_of, length_of, normalize_of}
use Rattle.octant.specs.declared.Octant.{Octant}
use Rattle.quadrant.specs.declared.Quadrant.{Quadrant}
use Rattle.quadrant.specs.Quadrant.{square_corner}
use Rattle.shape.specs.declared.RoundSuperellipse.{RoundSuperellipse}
use Rattle.calls.specs.declared.Call.{Call}
use Rattle.calls.specs.declared.Call.TheVariants as call
use Rattle.octant_curves.specs.Circle.{arc_points_of, circular_arc_points_of}
use Rattle.octant_curves.specs.Conics as port
use Rattle.octant_curves.specs.declared.SuperellipseConics as drawn
use Rattle.octant_curves.specs.declared.Placement as placed
use Rattle.octant_curves.specs.Placement.{flipped_point, apply_of}
use Rattle.outline_corners.specs.declared.Curves.{Curves}
use Rattle.outline_corners.specs.Corners.{curves_of, placed_conic, placed_cubic, forwards_calls, backwards_calls, octant_calls, next_of, square_calls, round_calls, corner_calls, equal_corners, unequal_corners, corners_of, start_point}
use Rattle.outline_corners.specs.Calls.{calls_in, outline_of, outline_calls}
use Rattle.rust_builder.specs.PathBuilder.{vec2, ◌⊞◌, ◌⊠◌, PathBuilder, move_to, line_to, quad_to, cubic_to, conic_to, close}
use Rattle.rust_builder.specs.AddTo.{table_entry, superellipse_conic_factors, intersection, SuperellipseConics, superellipse_conics, circular_arc_points, Placement, apply, add_octant, add_quadrant, minus_one, add_to}

-- ---- the six calls on the Rust's builder, and a list of them

unfoldable pub after : PathBuilder → Call → PathBuilder
after b (call.MoveTo p) = move_to b p
after b (call.LineTo p) = line_to b p
after b (call.QuadTo ctrl to) = quad_to b ctrl to
after b (call.ConicTo ctrl to weight) = conic_to b ctrl to weight
after b (call.CubicTo c0 c1 to) = cubic_to b c0 c1 to
after b call.Close = close b

unfoldable pub after_all : PathBuilder → List Call → PathBuilder
after_all b [] = b
after_all b (c ∷ cs) = after_all (after b c) cs

after_all_append : (b : PathBuilder) (cs ds : List Call) → after_all b (cs ++ ds) ≡ after_all (after_all b cs) ds
unfolding after_all
after_all_append b [] ds = refl
after_all_append b (c ∷ cs) ds = after_all_append (after b c) cs ds

-- ---- an octant's curves

factors_are : (n x : Float) → let f = superellipse_conic_factors n x in
    port.superellipse_conic_factors_of n x ≡ record { weight1 = f.0; weight2 = f.1; yh_proportion = f.2 }
unfolding superellipse_conic_factors table_entry port.superellipse_conic_factors_of port.capped_degree port.conic_at
factors_are n x = refl

intersections_are : (p : Point) (k : Float) (q : Point) (l : Float) → port.intersection_of p k q l ≡ intersection p k q l
unfolding intersection port.intersection_of add_of shrink_of
intersections_are p k q l = refl

abbrev conics_as : SuperellipseConics → drawn.SuperellipseConics
conics_as s = record { c1 = s.c1; h = s.h; weight1 = s.weight1; c2 = s.c2; j = s.j; weight2 = s.weight2; a = s.a }

conics_are : (o : Octant) (y : Float) → port.superellipse_conics_of o y ≡ conics_as (superellipse_conics o y)
unfolding superellipse_conics port.superellipse_conics_of port.meeting_height_of port.conics_by_slopes
conics_are o y = simp (factors_are, intersections_are)

abbrev points_as : Point × Point × Point × Point → List Point
points_as c = c.0 ∷ c.1 ∷ c.2 ∷ c.3 ∷ []

arcs_are : (o : Octant) → circular_arc_points_of o ≡ points_as (circular_arc_points o)
unfolding circular_arc_points circular_arc_points_of arc_points_of add_of sub_of scale_of length_squared_of length_of normalize_of
arcs_are o = refl

abbrev curves_as : Octant → Curves
curves_as o = record { circle = points_as (circular_arc_points o); conics = conics_as (superellipse_conics o (o.circle_start.y ⊘ o.se_a)) }

curves_are : (o : Octant) → curves_of o ≡ curves_as o
unfolding curves_of
curves_are o = let e = arcs_are o in let f = conics_are o (o.circle_start.y ⊘ o.se_a) in (λ i. record { circle = e i; conics = f i })

-- ---- an octant

abbrev place_as : Placement → placed.Placement
place_as p = record { offset = p.offset; scale = p.scale; octant_offset = p.octant_offset; flip = p.flip }

applies : (place : Placement) (p : Point) → apply_of (place_as place) p ≡ apply place p
unfolding apply apply_of flipped_point add_of mul_of
applies place p = refl

module _ (b : PathBuilder) (place : Placement) (o : Octant) where
  abbrev c : Point × Point × Point × Point
  c = circular_arc_points o

  abbrev se : SuperellipseConics
  se = superellipse_conics o (o.circle_start.y ⊘ o.se_a)

  backwards : conic_to (conic_to (cubic_to b (apply place c.2) (apply place c.1) (apply place c.0)) (apply place se.c2) (apply place se.h) se.weight2) (apply place se.c1) (apply place se.a) se.weight1
      ≡ after_all b (backwards_calls (place_as place) (curves_as o))
  unfolding after_all after backwards_calls placed_conic placed_cubic apply apply_of flipped_point add_of mul_of
  backwards = refl

  forwards : cubic_to (conic_to (conic_to b (apply place se.c1) (apply place se.h) se.weight1) (apply place se.c2) (apply place se.j) se.weight2) (apply place c.1) (apply place c.2) (apply place c.3)
      ≡ after_all b (forwards_calls (place_as place) (curves_as o))
  unfolding after_all after forwards_calls placed_conic placed_cubic apply apply_of flipped_point add_of mul_of
  forwards = refl

octants-are : (b : PathBuilder) (o : Octant) (offset scale : Point) (reverse flip : Bool) → add_octant b o offset scale reverse flip ≡ after_all b (octant_calls o offset scale reverse flip)
unfolding add_octant octant_calls
octants-are b o offset scale true flip =
    let place : Placement = record { offset = offset; scale = scale; octant_offset = o.offset; flip = flip } in
    backwards b place o ∙ ap (λ (x : Curves). after_all b (backwards_calls (place_as place) x)) (sym (curves_are o))
octants-are b o offset scale false flip =
    let place : Placement = record { offset = offset; scale = scale; octant_offset = o.offset; flip = flip } in
    forwards b place o ∙ ap (λ (x : Curves). after_all b (forwards_calls (place_as place) x)) (sym (curves_are o))

-- ---- a quadrant

-- one octant and then another
octants-then : (b : PathBuilder) (o p : Octant) (offset scale : Point) (r f r' f' : Bool)
    → add_octant (add_octant b o offset scale r f) p offset scale r' f' ≡ after_all b (octant_calls o offset scale r f ++ octant_calls p offset scale r' f')
octants-then b o p offset scale r f r' f' =
    ap (λ (x : PathBuilder). add_octant x p offset scale r' f') (octants-are b o offset scale r f)
    ∙ octants-are (after_all b (octant_calls o offset scale r f)) p offset scale r' f'
    ∙ sym (after_all_append b (octant_calls o offset scale r f) (octant_calls p offset scale r' f'))

abbrev by_test : PathBuilder → Quadrant → Bool → Point → Bool → PathBuilder
by_test b q reverse scale t =
    cond t
    (line_to (line_to b (q.offset ⊞ scale ⊠ (q.top.offset ⊞ vec2 q.top.se_a q.top.se_a)))
    (q.offset ⊞ scale ⊠ cond reverse (q.top.offset ⊞ vec2 zero q.top.se_a) (q.right.offset ⊞ vec2 q.right.se_a zero)))
    (cond reverse
    (add_octant (add_octant b q.right q.offset scale false true) q.top q.offset scale true false)
    (add_octant (add_octant b q.top q.offset scale false false) q.right q.offset scale true true))

by_test-is : (b : PathBuilder) (q : Quadrant) (reverse : Bool) (scale : Point) (t : Bool) → by_test b q reverse scale t ≡ after_all b (cond t (square_calls q reverse scale) (round_calls q reverse scale))
unfolding after_all after square_calls next_of round_calls add_of mul_of
by_test-is b q true scale true = refl
by_test-is b q false scale true = refl
by_test-is b q true scale false = octants-then b q.right q.top q.offset scale false true true false
by_test-is b q false scale false = octants-then b q.top q.right q.offset scale false false true true

quadrants-are : (b : PathBuilder) (q : Quadrant) (reverse : Bool) (sign : Point) → add_quadrant b q reverse sign ≡ after_all b (corner_calls q reverse sign)
unfolding add_quadrant corner_calls square_corner mul_of
quadrants-are b q reverse sign = by_test-is b q reverse (q.signed_scale ⊠ sign) (square_corner q)

-- ---- the outline

-- a quadrant, and what comes after it
quadrant-then : (b : PathBuilder) (q : Quadrant) (reverse : Bool) (sign : Point) (cs : List Call)
    → after_all (add_quadrant b q reverse sign) cs ≡ after_all b (corner_calls q reverse sign ++ cs)
quadrant-then b q reverse sign cs = ap (λ (x : PathBuilder). after_all x cs) (quadrants-are b q reverse sign) ∙ sym (after_all_append b (corner_calls q reverse sign) cs)

-- four quadrants
four-then : (b : PathBuilder) (p q r s : Quadrant) (i j k l : Point)
    → add_quadrant (add_quadrant (add_quadrant (add_quadrant b p false i) q true j) r false k) s true l
    ≡ after_all b (flatten (corner_calls p false i ∷ corner_calls q true j ∷ corner_calls r false k ∷ corner_calls s true l ∷ []))
unfolding flatten after_all
four-then b p q r s i j k l =
    quadrant-then (add_quadrant (add_quadrant (add_quadrant b p false i) q true j) r false k) s true l []
    ∙ quadrant-then (add_quadrant (add_quadrant b p false i) q true j) r false k _
    ∙ quadrant-then (add_quadrant b p false i) q true j _
    ∙ quadrant-then b p false i _

corners_go : (b : PathBuilder) (shape : RoundSuperellipse) (same : Bool)
    → let tr = shape.top_right in
    cond same
    (add_quadrant (add_quadrant (add_quadrant (add_quadrant b tr false (vec2 one one)) tr true (vec2 one minus_one)) tr false (vec2 minus_one minus_one)) tr true (vec2 minus_one one))
    (add_quadrant (add_quadrant (add_quadrant (add_quadrant b tr false (vec2 one one)) shape.bottom_right true (vec2 one one)) shape.bottom_left false (vec2 one one)) shape.top_left true (vec2 one one))
    ≡ after_all b (flatten (cond same (equal_corners tr) (unequal_corners shape)))
unfolding equal_corners unequal_corners
corners_go b shape true = let tr = shape.top_right in four-then b tr tr tr tr (vec2 one one) (vec2 one minus_one) (vec2 minus_one minus_one) (vec2 minus_one one)
corners_go b shape false = four-then b shape.top_right shape.bottom_right shape.bottom_left shape.top_left (vec2 one one) (vec2 one one) (vec2 one one) (vec2 one one)

pub add_to-is : (shape : RoundSuperellipse) (b : PathBuilder) → add_to shape b ≡ after_all b (outline_calls shape)
unfolding add_to outline_calls outline_of calls_in corners_of start_point after_all after add_of mul_of
add_to-is shape b =
    let start = start_point shape.top_right in
    let b1 = move_to b start in
    ap (λ (x : PathBuilder). close (line_to x start)) (corners_go b1 shape shape.all_corners_same)
    ∙ sym (after_all_append b1 (flatten (corners_of shape)) (call.LineTo start ∷ call.Close ∷ []))
