use Rattle.plan.proofs.sink.+sink.Given as goal

abbrev pub decreases-sink : goal.decreases-sink
decreases-sink g l = l.square.level
