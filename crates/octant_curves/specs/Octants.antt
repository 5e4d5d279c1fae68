-- What is drawn of an octant, and the steps towards its conics. Definitions only.
use Rattle.std.specs.Prelude.{Float}
use Rattle.geometry.specs.declared.Point.{Point}
use Rattle.std.specs.Float.Ieee.{neg}
use Rattle.exponential.specs.Power.{pow_of}
use Rattle.ieee.specs.Binary32.{◌⊖◌, ◌⊗◌, ◌⊘◌, one}
use Rattle.octant.specs.Octant.{point}
use Rattle.octant.specs.declared.Octant.{Octant}
use Rattle.octant_curves.specs.Conics.{superellipse_conic_factors_of, meeting_height_of, conics_by_slopes, superellipse_conics_of}
use Rattle.octant_curves.specs.declared.SuperellipseConics.{SuperellipseConics}
use Rattle.octant_curves.specs.declared.Start.{Start}

-- the two conics of an octant, by the height where its circle starts
abbrev pub conics_of : Octant → SuperellipseConics
conics_of o = superellipse_conics_of o (o.circle_start.y ⊘ o.se_a)

-- an octant with its factors and the height where its conics meet, from that height as a part of the half-extent
abbrev pub start_of : Octant → Float → Start
start_of o yj_over_a =
    let f = superellipse_conic_factors_of o.se_n (o.circle_start.x ⊘ o.se_a) in
    record { octant = o; factors = f; y = meeting_height_of f yj_over_a }

-- the slope of the radius to a point, which a power makes the slope of the tangent, but for the sign
abbrev pub ratio_of : Point → Float
ratio_of p = p.x ⊘ p.y

-- where the conics meet, by x as a part of the half-extent
abbrev pub meeting_point_of : Start → Float → Point
meeting_point_of s x = point (x ⊗ s.octant.se_a) (s.y ⊗ s.octant.se_a)

-- that x, by the height
abbrev pub meeting_x_of : Start → Float
meeting_x_of s = pow_of (one ⊖ pow_of s.y s.octant.se_n) (one ⊘ s.octant.se_n)

-- the slope of the tangent at a point of the superellipse
abbrev pub slope_at : Start → Point → Float
slope_at s p = neg (pow_of (ratio_of p) (s.octant.se_n ⊖ one))

-- the conics of such an octant
abbrev pub conics_from : Start → SuperellipseConics
conics_from s =
    let h = meeting_point_of s (meeting_x_of s) in
    conics_by_slopes s.octant s.factors h (slope_at s h) (slope_at s s.octant.circle_start)
