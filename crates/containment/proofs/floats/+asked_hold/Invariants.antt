use Rattle.containment.proofs.floats.+asked_hold.Given as goal

-- the lowest bit is taken away
abbrev pub decreases-asked_hold : goal.decreases-asked_hold
decreases-asked_hold l = l.asked
