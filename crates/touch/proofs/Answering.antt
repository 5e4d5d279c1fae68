-- The places that the search leaves are those that `touch` gives. Assumes nothing.
use mathlib.Core.Path.{◌≡◌, ap, ap₂, ◌∙◌}
use mathlib.Core.List.{List, [], ◌∷◌, ◌++◌}
use Prim.Native.Nat.{ℕ, ◌*◌, ◌≤◌}
use native.Mathlib.Omega.{arith}
use lib.Ieee.{Float}
use lib.ListN.{length, get_or, take, drop, replicate, length-map, length-replicate}
use lib.Seq.{take_at, drop_at}
use Rattle.geometry.specs.declared.Point.{Point}
use Rattle.panel_file.specs.declared.Record.{Record}
use Rattle.panel_file.specs.Panel.{buttons_of, touches_of}
use Rattle.panel_file.proofs.Walking.{count_all}
use Rattle.touch.specs.Touch.{nowhere_code, code_of, place_of, place_from, shape_of, shapes_of, place_among, places_of}
use Rattle.touch.specs.Search.{floats_of, points_in, places_after_shapes}
use Rattle.touch.proofs.Marking.{Below, place_from-below, code_most, place_code, places_after_shapes-places}
use Rattle.touch.proofs.Gathering.{points-floats}

module _ (rs : List Record) (few : length rs ≤ 5461) where
  pub few_shapes : length (shapes_of rs) ≤ nowhere_code
  unfolding shapes_of
  few_shapes = rw (length-map (buttons_of rs) shape_of) (omega (arith, count_all rs, few))

  -- floats fs hold the touches' points, and results were cleared before the search
  pub answered : (n : ℕ) (fs : List Float) (cleared results found : List ℕ) → n ≡ length (touches_of rs) → take (2 * length (touches_of rs)) fs ≡ floats_of (touches_of rs)
      → cleared ≡ replicate n nowhere_code
      → found ≡ places_after_shapes (points_in (take (2 * n) fs)) 0 (shapes_of rs) (take n (cleared ++ drop n results))
      → found ++ drop n (cleared ++ drop n results) ≡ places_of rs ++ drop n results
  unfolding places_of place_among
  answered n fs cleared results found e h c f =
      let ts = touches_of rs in
      let l : length cleared ≡ n = ap length c ∙ length-replicate n nowhere_code in
      let ps : points_in (take (2 * n) fs) ≡ ts = ap (λ (k : ℕ). points_in (take (2 * k) fs)) e ∙ ap points_in h ∙ points-floats ts in
      let none : take n (cleared ++ drop n results) ≡ replicate (length ts) nowhere_code = take_at cleared (drop n results) n l ∙ c ∙ ap (λ (k : ℕ). replicate k nowhere_code) e in
      ap₂ (λ (x y : List ℕ). x ++ y)
      (f ∙ ap₂ (λ (qs : List Point) (ns : List ℕ). places_after_shapes qs 0 (shapes_of rs) ns) ps none ∙ places_after_shapes-places ts (shapes_of rs) few_shapes)
      (drop_at cleared (drop n results) n l)

  -- one touch
  pub answered-one : (p : Point) (found : List ℕ) → found ≡ places_after_shapes (p ∷ []) 0 (shapes_of rs) (nowhere_code ∷ [])
      → (get_or found 0 0 ≤ nowhere_code) × (place_of (get_or found 0 0) ≡ place_among rs p)
  unfolding place_among
  answered-one p found f =
      let code : get_or found 0 0 ≡ code_of (place_among rs p) = ap (λ (ns : List ℕ). get_or ns 0 0) (f ∙ places_after_shapes-places (p ∷ []) (shapes_of rs) few_shapes) in
      let few = few_shapes in
      let below : Below nowhere_code (place_from p 0 (shapes_of rs)) = place_from-below p 0 (shapes_of rs) (omega arith) in
      (omega (arith, code_most below), ap place_of code ∙ place_code below)
