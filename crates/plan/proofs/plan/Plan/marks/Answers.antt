use Rattle.plan.proofs.Shapes.{recorded, lawful}
use Rattle.plan.proofs.plan.Plan.marks.Goals as goal

pub returns-clause-lawful : goal.returns-clause-lawful
returns-clause-lawful g c = lawful c.boxes.ensures.sound

pub returns-clause-planted : goal.returns-clause-planted
returns-clause-planted g c = (recorded c.boxes.ensures.sound g.met.G.Grade.laws).planted
