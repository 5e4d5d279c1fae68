-- A round corner's octants, solved as round ones, make its quadrant; so of four corners.
use Rattle.std.proofs.Common.{◌≡◌, Bool, true, not, map, length, slice_index_or, List, [], ◌∷◌}
use Rattle.std.specs.List.{list_all}
use borrow.Author.Tests.{not-true}
use native.Mathlib.Omega.{arith}
use lib.Ieee.{le}
use Rattle.lanes.proofs.Places.{map-agree}
use Rattle.octant.specs.Octant.{close_enough}
use Rattle.octant.specs.Stages.{round_octant_of}
use Rattle.octant.proofs.Solving.{round_octant-is}
use Rattle.quadrant.specs.Quadrant.{top_octant_of, right_octant_of, quadrant_with, quadrant_of}
use Rattle.quadrant.specs.declared.Frame.{Frame}
use Rattle.quadrant.specs.declared.Quadrant.{Quadrant}

abbrev pub is_round : Frame → Bool
is_round f = not (le f.radius close_enough)

abbrev pub round_quadrant : Frame → Quadrant
round_quadrant f = quadrant_with f (round_octant_of (top_octant_of f)) (round_octant_of (right_octant_of f))

corner-is : (f : Frame) → is_round f ≡ true → round_quadrant f ≡ quadrant_of f
unfolding quadrant_of
corner-is f e = rw (round_octant-is (top_octant_of f) (not-true _ e), round_octant-is (right_octant_of f) (not-true _ e))

pub four-are : (f : List Frame) → length f ≡ 4 → list_all is_round f ≡ true → (a b c d : Frame) → round_quadrant (slice_index_or f 0 a) ∷ round_quadrant (slice_index_or f 1 b) ∷ round_quadrant (slice_index_or f 2 c) ∷ round_quadrant (slice_index_or f 3 d) ∷ [] ≡ map quadrant_of f
four-are [] l e a b c d = absurd (omega arith)
four-are (p ∷ []) l e a b c d = absurd (omega arith)
four-are (p ∷ q ∷ []) l e a b c d = absurd (omega arith)
four-are (p ∷ q ∷ r ∷ []) l e a b c d = absurd (omega arith)
four-are (p ∷ q ∷ r ∷ s ∷ []) l e a b c d = map-agree is_round round_quadrant quadrant_of corner-is (p ∷ q ∷ r ∷ s ∷ []) e
four-are (p ∷ q ∷ r ∷ s ∷ t ∷ f) l e a b c d = absurd (omega arith)
