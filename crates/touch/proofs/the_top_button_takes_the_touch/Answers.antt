use Rattle.touch.proofs.Topmost.{goes_to_the_last, goes_nowhere_if_left}
use Rattle.touch.proofs.the_top_button_takes_the_touch.Goals as goal

pub returns : goal.returns
returns c = record { last = goes_to_the_last; nowhere = goes_nowhere_if_left }
