use Rattle.std.proofs.Common.{map, take}
use Rattle.boxtree.specs.Quadrants.{quadrant_of}
use Rattle.plan.specs.Places.{cells, cell_of}
use Rattle.plan.specs.Children.{children_of}
use Rattle.plan.proofs.Choosing.{Leads}
use Rattle.plan.proofs.lift.best_child.Given as goal

abbrev pub invariant-loop-q : goal.invariant-loop-q
invariant-loop-q g l = Leads g.G.Grade.kind (cells g.G.Grade.coded l.places) (cell_of g.G.Grade.coded l.here) (map quadrant_of (take l.q-index l.q-items)) (children_of g.G.Grade.coded l.best)
