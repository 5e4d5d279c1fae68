use Rattle.shape.proofs.Refusals.{made_within_limits, greatest-is_within_limits, two_if_beyond, three_if_negative, four_if_inverted, limit-passes, next-is_beyond, not_finite-is_beyond, minus_zero-is_not_below}
use Rattle.shape.proofs.refusals_are_exact.Goals as goal

pub returns : goal.returns
returns c = record {
  made = made_within_limits;
  greatest = greatest-is_within_limits;
  two = two_if_beyond;
  three = three_if_negative;
  four = four_if_inverted;
  limit = limit-passes;
  next = next-is_beyond;
  not_finite = not_finite-is_beyond;
  minus_zero = minus_zero-is_not_below;
}
