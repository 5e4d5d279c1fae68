-- `touch::place` meets its contract.
use Rattle.std.proofs.Common.{◌≡◌, ◌≤◌, ℕ, List, [], ◌∷◌, get_or, sym, ap, ◌∙◌}
use borrow.Author.Tests.{ne_eqb}
use Rattle.geometry.specs.declared.Point.{Point}
use Rattle.panel_file.specs.declared.file.PanelFile.{PanelFile}
use Rattle.panel_file.specs.File.{records}
use Rattle.panel_file.proofs.Opened.{records_few}
use Rattle.touch.specs.Touch.{nowhere_code, shapes_of, place_of, place_among, place_of_index}
use Rattle.touch.specs.Search.{points_in, places_after_shapes}
use Rattle.touch.proofs.Answering.{answered-one}
use Rattle.touch.proofs.place.Goals as goal

-- what the search leaves of the one touch
found : (f : PanelFile) (p : Point) (results : List ℕ) → results ≡ places_after_shapes (points_in (p.x ∷ p.y ∷ [])) 0 (shapes_of (records f)) (nowhere_code ∷ [])
    → let n = get_or results 0 0 in
    (n ≤ nowhere_code) × (place_of n ≡ place_among (records f) p)
unfolding points_in
found f p results e = answered-one (records f) (records_few f) p results e

pub returns-then-found : goal.returns-then-found
unfolding place_of_index place_of
returns-then-found c = sym (ap place_of c.if-found.true) ∙ (found c.args.file.now c.args.p c.search.new.results c.search.ensures).1

pub returns : goal.returns
unfolding place_of_index place_of
returns c = (rw (ne_eqb _ _ c.if-found.false)) ∙ (found c.args.file.now c.args.p c.search.new.results c.search.ensures).1
