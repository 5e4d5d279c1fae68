use Rattle.octant_curves.specs.Circle.{arc_points_of}
use mathlib.Core.Path.{◌≡◌, ap}
use lib.Ieee.{Float, neg}
use Rattle.geometry.specs.declared.Point.{Point}
use Rattle.geometry.specs.Point.{scale_of, length_of, normalize_of}
use Rattle.ieee.specs.Binary32.{◌⊘◌, one}
use Rattle.octant.specs.Octant.{point}
use Rattle.octant.proofs.Turned.{turned_back}
use Rattle.octant_curves.proofs.arc_points.Goals as goal

-- the unit at right angles to v, by v's own length
unit : (v : Point) → normalize_of (point v.y (neg v.x)) ≡ scale_of (point v.y (neg v.x)) (one ⊘ length_of v)
unfolding normalize_of
unit v = ap (λ (l : Float). scale_of (point v.y (neg v.x)) (one ⊘ l)) (turned_back v)

pub returns : goal.returns
unfolding arc_points_of
returns c = rw (← c.sub-start_vector.ensures, unit c.sub-start_vector.result, ← c.add-circle_end.ensures, ← c.length-radius.ensures, ← c.mul-start_tangent.ensures, ← c.normalize-end_tangent.ensures, ← c.mul.ensures, ← c.mul-first.ensures, ← c.mul-2.ensures, ← c.mul-second.ensures, ← c.add-control1.ensures, ← c.add-control2.ensures)
