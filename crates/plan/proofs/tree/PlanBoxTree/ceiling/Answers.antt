use Rattle.plan.proofs.Shapes.{lawful}
use Rattle.plan.proofs.tree.PlanBoxTree.ceiling.Goals as goal

pub returns-clause-lawful : goal.returns-clause-lawful
returns-clause-lawful g c = lawful c.boxes.ensures.sound
