use Rattle.std.proofs.Common.{sym}
use Rattle.plan.proofs.Shapes.{stands_whole}
use Rattle.plan.proofs.Calls.{located}
use Rattle.plan.proofs.plan.Plan.find.Goals as goal

pub seek-requires-clause-stands : goal.seek-requires-clause-stands
seek-requires-clause-stands g c = stands_whole c.self.invariant c.whole.ensures c.root.ensures

pub returns : goal.returns
returns g c = rw (← c.self.view_is) (located c.self.invariant c.args.cell.row c.args.cell.col (rw (← c.self.view_is) at (sym c.if-not-covers.ensures)) c.whole.ensures c.root.ensures _ c.seek.ensures)
