use Rattle.std.proofs.Common.{sym}
use Rattle.plan.proofs.Shapes.{marks_counted}
use Rattle.plan.proofs.plan.Plan.boxes.Goals as goal

pub returns-clause-counted : goal.returns-clause-counted
returns-clause-counted g c = rw (← c.self.view_is) (sym (marks_counted c.self.invariant))
