use Rattle.std.proofs.Common.{sym, ◌∙◌, arith}
use Rattle.plan.proofs.Shapes.{marks_counted}
use Rattle.plan.proofs.plan.Plan.enter.Goals as goal

pub put-requires-clause-vacant : goal.put-requires-clause-vacant
put-requires-clause-vacant g c =
    let taken = rw (← c.self.view_is, c.cell.ensures) at c.in_ok-find.ensures.taken in
    sym taken ∙ sym c.is_some.ensures ∙ c.if-is_some.false

pub put-requires-clause-room : goal.put-requires-clause-room
put-requires-clause-room g c =
    let marks = rw (← c.self.view_is) at c.marks.ensures.counted in
    let places = rw (← c.self.view_is) at c.places.ensures in
    omega (arith, c.if-marks-places.false, marks, marks_counted c.self.invariant, places)
