use mathlib.Core.Path.{◌≡◌, sym, ap, ◌∙◌}
use mathlib.Core.Bool.{Bool, true}
use Rattle.geometry.specs.declared.Point.{Point}
use Rattle.quadrant.specs.declared.Quadrant.{Quadrant}
use Rattle.quadrant.specs.Quadrant.{square_corner}
use Rattle.containment.specs.Contains.{norm_contains, square_contains}
use Rattle.containment.proofs.Corners.{round-asked}
use Rattle.containment.proofs.floats.norm_holds.Goals as goal

square-asked : (q c : Quadrant) (n : Point) (s r : Bool) → c ≡ q → s ≡ square_corner c → s ≡ true → r ≡ square_contains c n → r ≡ norm_contains q n
unfolding norm_contains
square-asked q c n s r eq es et er = rw (sym (es ∙ ap square_corner eq), et) (er ∙ ap (λ (k : Quadrant). square_contains k n) eq)

pub returns-then-is_square : goal.returns-then-is_square
returns-then-is_square c = square-asked _ _ _ _ _ c.quadrant_at-corner.ensures c.is_square.ensures c.if-is_square.true c.square_contains.ensures

pub returns : goal.returns
returns c = round-asked _ _ _ _ _ c.quadrant_at-corner.ensures c.is_square.ensures c.if-is_square.false c.round_holds.ensures
