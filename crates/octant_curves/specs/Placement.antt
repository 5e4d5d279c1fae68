-- The map from an octant's own space out to the shape's. Definitions only.
use Rattle.std.specs.Prelude.{Bool, if◌then◌else◌}
use Rattle.geometry.specs.declared.Point.{Point}
use Rattle.geometry.specs.Point.{add_of, mul_of}
use Rattle.octant.specs.Octant.{point}
use Rattle.octant_curves.specs.declared.Placement.{Placement}

-- the point with its components exchanged, where `flip` says so
unfoldable pub flipped_point : Bool → Point → Point
flipped_point flip p = if flip then point p.y p.x else p

-- Placement::apply
unfoldable pub apply_of : Placement → Point → Point
apply_of place p = add_of place.offset (mul_of place.scale (add_of place.octant_offset (flipped_point place.flip p)))
