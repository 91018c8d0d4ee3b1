use Rattle.std.proofs.Common.{sym}
use Rattle.plan.proofs.Shapes.{lawful}
use Rattle.plan.proofs.Boxes.{box_past, box_read}
use Rattle.plan.proofs.plan.Plan.box_place.Goals as goal

pub returns-then-not-has_box-clause-holds : goal.returns-then-not-has_box-clause-holds
returns-then-not-has_box-clause-holds g c = box_past c.has_box.ensures.sound c.args.b (sym c.if-not-has_box.ensures.is)

pub returns-then-not-has_box-clause-lawful : goal.returns-then-not-has_box-clause-lawful
returns-then-not-has_box-clause-lawful g c = lawful c.has_box.ensures.sound

pub returns-clause-holds : goal.returns-clause-holds
returns-clause-holds g c =
    rw (← c.self.view_is) (box_read c.self.invariant c.args.b (rw (← c.self.view_is) at (sym c.if-not-has_box.ensures.is)) c.read.result c.read.ensures)

pub returns-clause-lawful : goal.returns-clause-lawful
returns-clause-lawful g c = lawful c.has_box.ensures.sound
