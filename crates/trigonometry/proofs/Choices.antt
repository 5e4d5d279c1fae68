-- The last rule of atan2 in stages: each chooses by the definition's tests, and chooses the same. Assumes nothing.
use mathlib.Core.Path.{◌≡◌, refl, sym, ap, ◌∙◌}
use mathlib.Core.List.{List, map}
use Rattle.std.specs.List.{list_all}
use Rattle.std.specs.Simd.Lanes.{zip2}
use mathlib.Core.Bool.{Bool, true, false, cond, not, ◌&&◌, false≢true}
use lib.Ieee.{Float, inf, binary64, add, sub, mul, div, eq, ne, lt, le}
use Rattle.std.specs.Float.{pi}
use lib.Ieee.Scale.{finite}
use Rattle.lanes.proofs.Places.{map-of_map, map-of_zip2, zip2-of_map_right, zip2-agree, all_and, all_pairs}
use Rattle.ieee.proofs.Simple.{finite-is}
use Rattle.ieee.proofs.Tests.{both}
use Rattle.std.proofs.lemmas.Bool.{not-true}
use Rattle.ieee.specs.Basic.{widen_of, abs_of}
use Rattle.ieee.specs.Narrow.{narrow_of}
use Rattle.series.specs.Horner.{horner_of}
use Rattle.series.specs.Coefficients.{H, terms}
use Rattle.ieee.specs.Binary64.{zero, half, one, two, four}
use Rattle.trigonometry.specs.Arctangent.{arctangent_term, series_of, arctangent_of, quarter_of, mirrored_of, signed_of, atan2_of}
use Rattle.trigonometry.specs.Stages.{plain, place_of, ratio_of, turned_of, angle_of}
use Rattle.trigonometry.specs.declared.Place.{Place}

-- one value of f, of what a test chooses, and then by the same test itself or g of it
same_test : (t : Bool) (f g : Float → Float) (a b : Float) → cond t (f (cond t a b)) (g (f (cond t a b))) ≡ cond t (f a) (g (f b))
same_test true f g a b = refl
same_test false f g a b = refl

abbrev pub reduced_of : Float → Float
reduced_of r = cond (le r half) r (div binary64 (sub binary64 r one) (add binary64 r one))

abbrev pub series : Float → Float
series s = mul binary64 s (horner_of binary64 (terms arctangent_term 26) (mul binary64 s s))

abbrev pub raised_of : Float → Float → Float
raised_of r v = cond (le r half) v (add binary64 (div binary64 (pi binary64) four) v)

pub arctangent_by : (r : Float) → raised_of r (series (reduced_of r)) ≡ arctangent_of r
unfolding arctangent_of series_of H
arctangent_by r = same_test (le r half) series (add binary64 (div binary64 (pi binary64) four)) r (div binary64 (sub binary64 r one) (add binary64 r one))

angle_by : (p : Place) → turned_of p (arctangent_of (ratio_of p)) ≡ angle_of p
unfolding turned_of ratio_of angle_of quarter_of
angle_by p =
    let a = abs_of p.y in
    let b = abs_of p.x in
    ap (λ (v : Float). signed_of p.y (mirrored_of p.x v)) (same_test (le a b) arctangent_of (sub binary64 (div binary64 (pi binary64) two)) (div binary64 a b) (div binary64 b a))

last_rule : (a b c : Bool) (u v w : Float) → (a && b && not c) ≡ true → cond (not (a && b)) u (cond c v w) ≡ w
last_rule false b c u v w h = absurd (false≢true h)
last_rule true false c u v w h = absurd (false≢true h)
last_rule true true true u v w h = absurd (false≢true h)
last_rule true true false u v w h = refl

plain-is : (y x : Float) → plain y x ≡ true → atan2_of y x ≡ narrow_of (angle_of (place_of y x))
unfolding plain atan2_of angle_of widen_of
plain-is y x h = last_rule (finite y) (finite x) (eq y zero && eq x zero) _ _ _ h

-- the angles of points, stage by stage
pub by_stages : (p : List Place) (r f v : List Float) → r ≡ map ratio_of p → f ≡ map arctangent_of r → v ≡ zip2 turned_of p f → v ≡ map angle_of p
by_stages p r f v er ef ev = zip2-of_map_right turned_of (λ (q : Place). arctangent_of (ratio_of q)) angle_of angle_by p f v (map-of_map arctangent_of ratio_of p r f er ef) ev

-- more than plain
abbrev pub whole : Float → Bool
whole x = lt (inf true) x && lt x (inf false)

more : (y x : Float) → (whole y && ne y zero) ≡ true → whole x ≡ true → plain y x ≡ true
unfolding plain ne
more y x d e =
    let first = both (whole y) (ne y zero) d in
    rw (sym (finite-is y) ∙ first.0, sym (finite-is x) ∙ e, not-true (eq y zero) first.1)

pub all_plain : (y x : List Float) → ((list_all whole y && list_all whole x) && list_all (λ (a : Float). ne a zero) y) ≡ true → list_all (λ (b : Bool). b) (zip2 plain y x) ≡ true
all_plain y x e =
    let each = both (list_all whole y && list_all whole x) (list_all (λ (a : Float). ne a zero) y) e in
    let finite = both (list_all whole y) (list_all whole x) each.0 in
    all_pairs (λ (a : Float). whole a && ne a zero) whole plain more y x (sym (all_and whole (λ (a : Float). ne a zero) y) ∙ rw (finite.0, each.1)) finite.1

-- the angles of points that are all plain, as they are worked out side by side
pub side_by_side : (y x : List Float) (p : List Place) (v r : List Float) → list_all (λ (b : Bool). b) (zip2 plain y x) ≡ true
    → p ≡ zip2 place_of y x → v ≡ map angle_of p → r ≡ map narrow_of v → r ≡ zip2 atan2_of y x
side_by_side y x p v r h ep ev er =
    rw (er, ev, ep, map-of_zip2, map-of_zip2) (sym (zip2-agree plain atan2_of (λ (b a : Float). narrow_of (angle_of (place_of b a))) plain-is y x h))
