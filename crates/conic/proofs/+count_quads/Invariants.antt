use Rattle.conic.proofs.+count_quads.Given as goal

-- the depth falls
abbrev pub decreases-count_quads : goal.decreases-count_quads
decreases-count_quads l = l.depth
