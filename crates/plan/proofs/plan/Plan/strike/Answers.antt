use Rattle.plan.proofs.Calls.{found_shown}
use Rattle.plan.proofs.plan.Plan.strike.Goals as goal

pub take-requires-clause-shown : goal.take-requires-clause-shown
take-requires-clause-shown g c =
    let found = rw (← c.self.view_is) at c.in_ok-find.ensures.found in
    found_shown g.G.Grade.coded c.args.row c.args.col _ c.in_ok-find.field-0 c.in_ok-mark.mark _ c.in_ok-mark.ensures.value found
