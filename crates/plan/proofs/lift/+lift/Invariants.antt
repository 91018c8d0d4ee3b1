use Rattle.plan.proofs.lift.+lift.Given as goal

abbrev pub decreases-lift : goal.decreases-lift
decreases-lift g l = l.square.level
