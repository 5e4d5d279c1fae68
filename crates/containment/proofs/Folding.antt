-- A corner asked for points of its own quadrant alone, or for mirrored ones, in one form.
use mathlib.Core.Path.{◌≡◌, refl, sym, ap, ap₂, ◌∙◌}
use mathlib.Core.Bool.{Bool, true, false, cond, ◌&&◌, ◌||◌}
use lib.Ieee.{Float, lt}
use Rattle.ieee.specs.Basic.{abs_of}
use Rattle.geometry.specs.declared.Point.{Point}
use Rattle.geometry.specs.Point.{sub_of, div_of, abs_point}
use Rattle.ieee.specs.Binary32.{zero}
use Rattle.octant.specs.Octant.{point}
use Rattle.quadrant.specs.declared.Quadrant.{Quadrant}
use Rattle.containment.specs.Contains.{norm_contains, corner_contains_of}

passed_over : (check out inside other : Bool) → (check && out) ≡ true → true ≡ cond check (cond out true inside) other
passed_over true true inside other e = refl
passed_over true false true other e = refl
passed_over true false false other e = sym e
passed_over false out inside true e = refl
passed_over false out inside false e = sym e

apart {ℓ} : {A : Type ℓ} (f : A → Bool) (check : Bool) (p q : A) → f (cond check p q) ≡ cond check (f p) (f q)
apart f true p q = refl
apart f false p q = refl

by_coordinate : (check : Bool) (n : Point) → point (cond check n.x (abs_of n.x)) (cond check n.y (abs_of n.y)) ≡ cond check n (abs_point n)
unfolding abs_point
by_coordinate true n = refl
by_coordinate false n = refl

not-passed : (check out inside other : Bool) → (check && out) ≡ false → cond check inside other ≡ cond check (cond out true inside) other
not-passed true true true other e = refl
not-passed true true false other e = sym e
not-passed true false inside other e = refl
not-passed false out inside other e = refl

-- the same of what the code has: d and n on the way to the quadrant's own space, t whether the point is passed over
module _ (q : Quadrant) (p : Point) (check : Bool) (d n : Point) (t : Bool) (ed : d ≡ sub_of p q.offset) (en : n ≡ div_of d q.signed_scale) (et : t ≡ (check && (lt n.x zero || lt n.y zero))) where
  pub corner-passed : t ≡ true → true ≡ corner_contains_of q p check
  unfolding corner_contains_of
  corner-passed e = rw (← ed, ← en) (passed_over check (lt n.x zero || lt n.y zero) (norm_contains q n) (norm_contains q (abs_point n)) (sym et ∙ e))

  pub corner-asked : (x y : Float) (r : Bool) → x ≡ cond check n.x (abs_of n.x) → y ≡ cond check n.y (abs_of n.y) → r ≡ norm_contains q (point x y) → t ≡ false → r ≡ corner_contains_of q p check
  unfolding corner_contains_of
  corner-asked x y r ex ey er e =
      rw (← ed, ← en)
      (er ∙ ap₂ (λ (a b : Float). norm_contains q (point a b)) ex ey ∙ ap (norm_contains q) (by_coordinate check n) ∙ apart (norm_contains q) check n (abs_point n) ∙ not-passed check (lt n.x zero || lt n.y zero) (norm_contains q n) (norm_contains q (abs_point n)) (sym et ∙ e))
