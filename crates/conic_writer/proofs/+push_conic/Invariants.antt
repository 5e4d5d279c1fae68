use Rattle.conic_writer.proofs.+push_conic.Given as goal

-- the depth falls
abbrev pub decreases-push_conic : goal.decreases-push_conic
decreases-push_conic l = l.depth
