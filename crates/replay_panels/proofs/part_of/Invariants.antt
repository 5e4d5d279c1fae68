-- `panels::part_of` ends: fewer bytes are left after each word. Assumes nothing.
use Rattle.std.proofs.Common.{length}
use Rattle.replay_panels.proofs.part_of.Given as goal

abbrev pub decreases-loop-word : goal.decreases-loop-word
decreases-loop-word l = length l.rest
