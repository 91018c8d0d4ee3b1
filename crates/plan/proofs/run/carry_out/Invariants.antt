use Rattle.plan.specs.Plans.{ledger}
use Rattle.plan.proofs.Running.{Running}
use Rattle.plan.proofs.run.carry_out.Given as goal

abbrev pub invariant-loop-i : goal.invariant-loop-i
invariant-loop-i g l =
    Running g.G.Grade.coded (ledger g.G.Grade.coded l.initial.plan) l.calls l.initial.answers l.i l.plan l.answers
