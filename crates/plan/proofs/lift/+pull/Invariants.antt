use Rattle.plan.proofs.lift.+pull.Given as goal

abbrev pub decreases-pull : goal.decreases-pull
decreases-pull g l = l.square.level
