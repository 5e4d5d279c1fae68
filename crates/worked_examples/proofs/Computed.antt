-- The worked examples, each computed.
use mathlib.Core.Path.{refl, ap}
use lib.Ieee as Ieee
use Rattle.ieee.specs.Basic.{abs_of}
use Rattle.ieee.specs.Sqrt.{sqrt_of, root_of, isqrt}
use Rattle.geometry.specs.Point.{add_of, sub_of, scale_of, shrink_of, length_of, length_squared_of, finite_point}
use Rattle.conic.specs.Conic.{is_line, lower_of, conic_mid, quad_mid, flat_of, half_weight_of, split_of}
use Rattle.conic.specs.Halving.{halve, word_of}
use Rattle.stream.specs.Stream.{sizes_of, bad_record, has_room}
use Rattle.conic_writer.specs.Entries.{elements_of, pieces_in, lowered_of}
use Rattle.calls.specs.Calls.{entries_of, step, attempt}
use Rattle.octant.proofs.Examples.{degree_at_5, last-row-at_5, degree_at_2½, sharp, above-sharp}
use Rattle.octant.specs.declared.Octant.{Octant}
use Rattle.octant_curves.proofs.Examples.{weight_at_3}
use Rattle.containment.proofs.Examples.{is_made, outside, inside}
use Rattle.worked_examples.specs.WorkedExamples.{WorkedExamples}
use Rattle.worked_examples.proofs.Square.{square_outline_lem}

-- opens every definition that a conic is computed by
unfoldable computing : Unit {0}
unfolding entries_of lowered_of elements_of pieces_in sizes_of lower_of is_line halve word_of conic_mid quad_mid flat_of half_weight_of split_of add_of sub_of scale_of shrink_of length_of length_squared_of finite_point abs_of sqrt_of root_of isqrt Ieee.root_below step attempt bad_record has_room Ieee.of_bits Ieee.of_fields Ieee.lt Ieee.le Ieee.sub Ieee.add Ieee.neg Ieee.sum Ieee.round Ieee.size Ieee.units Ieee.odd Ieee.mul Ieee.div Ieee.span Ieee.climb
computing = tt

pub computed : WorkedExamples
unfolding computing
computed = record {
  a = refl;
  a_word = refl;
  b = refl;
  b_word = refl;
  c_verbs = refl;
  c_points = refl;
  c_word = refl;
  c_room = refl;
  c_full = refl;
  d = refl;
  d_word = refl;
  e = refl;
  e_word = refl;
  f = degree_at_5;
  f_row = last-row-at_5;
  f_first = degree_at_2½;
  g = weight_at_3;
  h = λ p. ap (λ (o : Octant). o.se_n) (sharp p);
  h_next = above-sharp;
  i = square_outline_lem;
  j_made = is_made;
  j_outside = outside;
  j_inside = inside;
}
