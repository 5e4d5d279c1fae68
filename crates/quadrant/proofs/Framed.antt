-- A corner's frame and its solved octants make up the quadrant. Assumes nothing.
use mathlib.Core.Path.{◌≡◌, refl}
use Rattle.geometry.specs.declared.Point.{Point}
use Rattle.quadrant.specs.Quadrant.{frame_of, top_offset_of, right_offset_of, quadrant_of, compute_quadrant_of}

pub framed : (center corner radii sign : Point) → quadrant_of (frame_of center corner radii sign) ≡ compute_quadrant_of center corner radii sign
unfolding frame_of top_offset_of right_offset_of quadrant_of compute_quadrant_of
framed center corner radii sign = refl
