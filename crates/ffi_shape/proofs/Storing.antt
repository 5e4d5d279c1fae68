-- Floats that are stored one behind the other are one list.
use mathlib.Core.Path.{◌≡◌, refl, sym, ap, ◌∙◌}
use mathlib.Core.List.{List, [], ◌∷◌, ◌++◌, append-nil}
use mathlib.Core.Bool.{Bool, true, false, cond}
use Prim.Native.Nat.{ℕ, ◌+◌, ◌≤◌}
use native.Mathlib.Omega.{arith}
use native.Mathlib.Nat.{zero-add}
use lib.ListN.{length, set, drop}
use lib.Seq.{drop-length}
use Rattle.std.specs.Prelude.{pos}
use lib.Ieee.{Float, binary32, of_int, of_bits}
use Rattle.std.specs.Int.{from_bool}
use Rattle.stream.specs.Stream.{put}
use Rattle.stream.proofs.Put.{put_one, put-after}
use Rattle.ieee.specs.Binary32.{zero, one}
use Rattle.octant.specs.Octant.{point}
use Rattle.octant.specs.declared.Octant.{Octant}
use Rattle.quadrant.specs.declared.Quadrant.{Quadrant}
use Rattle.shape.specs.declared.RoundSuperellipse.{RoundSuperellipse}
use Rattle.shape.specs.Layout.{point_floats, octant_floats, quadrant_floats, shape_floats}

-- m' has ws behind vs, where m has vs in l
pub put-after_put : (l m m' : List Float) (i j : ℕ) (vs ws : List Float) → i ≤ length l → j ≡ i + length vs → m ≡ put l i vs → m' ≡ put m j ws → m' ≡ put l i (vs ++ ws)
put-after_put l m m' i j vs ws h e p q = q ∙ put-after l m i j vs ws h e p

pub octant_stored : (l m₁ m₂ m₃ m₄ : List Float) (i : ℕ) (o : Octant) → i + 9 ≤ length l
    → m₁ ≡ put l i (point_floats o.offset) → m₂ ≡ put m₁ (i + 2) (point_floats (point o.se_a o.se_n)) → m₃ ≡ put m₂ (i + 4) (point_floats o.circle_start) → m₄ ≡ put m₃ (i + 6) (point_floats o.circle_center)
    → length m₄ ≡ length l → set m₄ (i + 8) o.circle_max_angle ≡ put l i (octant_floats o)
unfolding octant_floats
octant_stored l m₁ m₂ m₃ m₄ i o h e₁ e₂ e₃ e₄ k =
    let at : i ≤ length l = omega arith in
    let s₂ = put-after_put l m₁ m₂ i (i + 2) (point_floats o.offset) (point_floats (point o.se_a o.se_n)) at refl e₁ e₂ in
    let s₃ = put-after_put l m₂ m₃ i (i + 4) _ (point_floats o.circle_start) at refl s₂ e₃ in
    let s₄ = put-after_put l m₃ m₄ i (i + 6) _ (point_floats o.circle_center) at refl s₃ e₄ in
    put-after_put l m₄ _ i (i + 8) _ (o.circle_max_angle ∷ []) at refl s₄ (put_one m₄ (i + 8) o.circle_max_angle (omega arith))

pub quadrant_stored : (l m₁ m₂ m₃ m₄ : List Float) (i : ℕ) (q : Quadrant) → i + 22 ≤ length l
    → m₁ ≡ put l i (point_floats q.offset) → m₂ ≡ put m₁ (i + 2) (point_floats q.signed_scale) → m₃ ≡ put m₂ (i + 4) (octant_floats q.top) → m₄ ≡ put m₃ (i + 13) (octant_floats q.right)
    → m₄ ≡ put l i (quadrant_floats q)
unfolding octant_floats quadrant_floats
quadrant_stored l m₁ m₂ m₃ m₄ i q h e₁ e₂ e₃ e₄ =
    let at : i ≤ length l = omega arith in
    let s₂ = put-after_put l m₁ m₂ i (i + 2) (point_floats q.offset) (point_floats q.signed_scale) at refl e₁ e₂ in
    let s₃ = put-after_put l m₂ m₃ i (i + 4) _ (octant_floats q.top) at refl s₂ e₃ in
    put-after_put l m₃ m₄ i (i + 13) _ (octant_floats q.right) at refl s₃ e₄

-- what fills a list replaces it
put_whole : (l vs : List Float) → length l ≡ length vs → put l 0 vs ≡ vs
unfolding put
put_whole l vs e = ap (λ (k : ℕ). vs ++ drop k l) (zero-add (length vs) ∙ sym e) ∙ ap (λ (r : List Float). vs ++ r) (drop-length l) ∙ append-nil vs

-- 1 for true and 0 for false, as floats
pub flag_is : (b : Bool) (v : Float) → v ≡ of_int binary32 (pos (from_bool b)) → v ≡ cond b one zero
unfolding of_int of_bits
flag_is true v e = e
flag_is false v e = e

pub shape-stored : (l m₁ m₂ m₃ m₄ : List Float) (v : Float) (s : RoundSuperellipse) → length l ≡ 89
    → m₁ ≡ put l 0 (quadrant_floats s.top_right) → m₂ ≡ put m₁ 22 (quadrant_floats s.bottom_right) → m₃ ≡ put m₂ 44 (quadrant_floats s.bottom_left) → m₄ ≡ put m₃ 66 (quadrant_floats s.top_left)
    → v ≡ cond s.all_corners_same one zero → length m₄ ≡ length l → set m₄ 88 v ≡ shape_floats s
unfolding octant_floats quadrant_floats shape_floats
shape-stored l m₁ m₂ m₃ m₄ v s h e₁ e₂ e₃ e₄ f k =
    let at : 0 ≤ length l = omega arith in
    let s₂ = put-after_put l m₁ m₂ 0 22 (quadrant_floats s.top_right) (quadrant_floats s.bottom_right) at refl e₁ e₂ in
    let s₃ = put-after_put l m₂ m₃ 0 44 _ (quadrant_floats s.bottom_left) at refl s₂ e₃ in
    let s₄ = put-after_put l m₃ m₄ 0 66 _ (quadrant_floats s.top_left) at refl s₃ e₄ in
    ap (λ (x : Float). set m₄ 88 x) f
    ∙ put-after_put l m₄ _ 0 88 _ (cond s.all_corners_same one zero ∷ []) at refl s₄ (put_one m₄ 88 (cond s.all_corners_same one zero) (omega arith))
    ∙ put_whole l _ h
