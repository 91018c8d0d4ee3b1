use Rattle.plan.proofs.relocate.+relocate.Given as goal

abbrev pub decreases-relocate : goal.decreases-relocate
decreases-relocate g l = l.square.level
