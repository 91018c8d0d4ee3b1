use Rattle.std.proofs.Common.{arith}
use Rattle.plan.specs.Places.{cells, cell_of}
use Rattle.plan.proofs.Choosing.{leads_more, leads_all}
use Rattle.plan.proofs.lift.best_child.Goals as goal

pub loop-q-preserved : goal.loop-q-preserved
loop-q-preserved g c =
    leads_more g.G.Grade.kind g.met.G.Grade.laws (cells g.G.Grade.coded c.args.places.now) (cell_of g.G.Grade.coded c.args.here)
    _ c.loop-q.q-index _ _ _ _ c.loop-q-test.true c.loop-q.invariant c.child_in.ensures c.better-best.ensures

pub returns : goal.returns
returns g c =
    leads_all g.G.Grade.kind g.met.G.Grade.laws (cells g.G.Grade.coded c.args.places.now) (cell_of g.G.Grade.coded c.args.here)
    c.loop-q.q-index _ (omega arith) c.loop-q.invariant
