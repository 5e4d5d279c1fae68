-- How code asks whether a conic is one quad. Assumes nothing.
use mathlib.Core.Path.{◌≡◌, refl, ap, ap₂, ◌∙◌}
use mathlib.Core.Bool.{Bool, true, false, cond, ◌||◌}
use Prim.Native.Nat.{ℕ, zero, suc}
use lib.Dec.{eqb, eqb-suc-zero}
use Rattle.geometry.specs.Point.{length_of}
use Rattle.conic.specs.declared.Conic.{Conic}
use Rattle.conic.specs.Conic.{distance_of, chord_of, near_one_of, near_of, flat_of}
use Rattle.conic.specs.Halving.{is_one_quad}

-- what code finds that asks for the depth, for the weight and for the middles
either : (b n : Bool) → (b || n) ≡ cond b true n
either true n = refl
either false n = refl

pub quad_is : (d : ℕ) (c : Conic) {b n : Bool} → b ≡ near_one_of c.weight → n ≡ near_of (distance_of c) (chord_of c) → ((eqb d 0 || b) || n) ≡ is_one_quad d c
unfolding is_one_quad flat_of near_of length_of
quad_is zero c e f = refl
quad_is (suc d) c {b} {n} e f =
    ap (λ (z : Bool). (z || b) || n) (eqb-suc-zero d) ∙ either b n ∙ ap₂ (λ (p q : Bool). cond p true q) e f
