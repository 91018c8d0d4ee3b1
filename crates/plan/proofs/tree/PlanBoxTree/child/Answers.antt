use Rattle.std.proofs.lemmas.Result.{err_from_is_err_and}
use Rattle.plan.proofs.Boxes.{child_past}
use Rattle.plan.proofs.tree.PlanBoxTree.child.Goals as goal

pub returns-in_err-quadrant : goal.returns-in_err-quadrant
returns-in_err-quadrant g c =
    let p = err_from_is_err_and c.from_residual-in_err-quadrant.result c.from_residual-in_err-quadrant.ensures.1 in
    rw (p.1) (child_past _ c.args.q c.in_ok-here.ensures.holds.0 c.in_err-quadrant.ensures)
