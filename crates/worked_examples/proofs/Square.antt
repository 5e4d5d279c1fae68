-- Example i: the outline of the square, by computation.
use mathlib.Core.Path.{◌≡◌, refl}
use mathlib.Core.List.{flatten}
use lib.Ieee.{add, sub, mul, div, neg, lt, le, eq, ne, round, of_bits}
use Rattle.ieee.specs.Basic.{abs_of, min_of}
use Rattle.geometry.specs.Point.{add_of, sub_of, mul_of, div_of, shrink_of, abs_point}
use Rattle.octant.specs.Octant.{compute_octant_of}
use Rattle.quadrant.specs.Quadrant.{forward_scale_of, or_sign_of, compute_quadrant_of, both_zero, split_of}
use Rattle.shape.specs.Shape.{same_point, all_same, one_quadrant, unequal_shape, shape_of}
use Rattle.stream.specs.Stream.{start_after, pen_after}
use Rattle.conic_writer.specs.Entries.{elements_of}
use Rattle.calls.specs.Calls.{entries_of}
use Rattle.quadrant.specs.Quadrant.{square_corner}
use Rattle.outline_corners.specs.Corners.{next_of, square_calls, corner_calls, equal_corners, unequal_corners, corners_of, start_point}
use Rattle.outline_corners.specs.Calls.{outline_of, calls_in, outline_calls}
use Rattle.outline_need.specs.Entries.{entries_along, outline_entries}
use Rattle.worked_examples.specs.WorkedExamples.{shape, square_outline}

-- opens the float operations and the definitions of a square shape and of its outline at once
unfoldable computing_square : Unit {0}
unfolding add sub mul div neg lt le eq ne round of_bits abs_of min_of add_of sub_of mul_of div_of shrink_of abs_point compute_octant_of forward_scale_of or_sign_of compute_quadrant_of both_zero split_of same_point all_same one_quadrant unequal_shape shape_of start_after pen_after elements_of entries_of square_corner next_of square_calls corner_calls equal_corners unequal_corners corners_of start_point outline_of calls_in outline_calls entries_along outline_entries flatten
computing_square = tt

pub square_outline_lem : elements_of (outline_entries shape) ≡ square_outline
unfolding computing_square
square_outline_lem = refl
