use mathlib.Core.Path.{refl}
use Rattle.geometry.specs.Point.{sub_of, length_squared_of, distance_squared_of}
use Rattle.containment.specs.QuickReject.{squared_distances, quick_reject_of}
use Rattle.containment.proofs.quick_reject_of.Goals as goal

pub returns : goal.returns
unfolding quick_reject_of squared_distances distance_squared_of length_squared_of sub_of
returns c = rw (c.squared_distances.ensures, c.is_square.ensures) refl
