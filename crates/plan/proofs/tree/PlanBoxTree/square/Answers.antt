use Rattle.plan.proofs.Shapes.{lawful}
use Rattle.plan.proofs.tree.PlanBoxTree.square.Goals as goal

pub returns-clause-lawful : goal.returns-clause-lawful
returns-clause-lawful g c = rw (← c.self.view_is) (lawful c.self.invariant)
