use Rattle.outline_corners.proofs.RoundCalls.{round_calls-is}
use Rattle.outline_corners.specs.Corners.{curves_of}
use Rattle.outline_corners.proofs.draw_round.Goals as goal

pub returns : goal.returns
unfolding curves_of
returns c = record {
  first = rw (c.round_one.ensures, c.both_curves.ensures.top, c.both_curves.ensures.right, c.circular_arcs-a.ensures, c.conics-c.ensures, round_calls-is);
  second = rw (c.round_one-2.ensures, c.both_curves-2.ensures.top, c.both_curves-2.ensures.right, c.circular_arcs-a.ensures, c.conics-c.ensures, round_calls-is);
  third = rw (c.round_one-3.ensures, c.both_curves-3.ensures.top, c.both_curves-3.ensures.right, c.circular_arcs-a.ensures, c.conics-c.ensures, round_calls-is);
  fourth = rw (c.round_one-4.ensures, c.both_curves-4.ensures.top, c.both_curves-4.ensures.right, c.circular_arcs-a.ensures, c.conics-c.ensures, round_calls-is);
}
