use Rattle.std.proofs.Common.{◌∙◌, arith}
use Rattle.plan.specs.Places.{cells}
use Rattle.plan.specs.Children.{choice_of}
use Rattle.plan.proofs.Descent.{root_below}
use Rattle.plan.proofs.Lifting.{linked, pull_none, pull_asks, pull_does}
use Rattle.plan.proofs.lift.+pull.Goals as goal

pub read-here-requires : goal.read-here-requires
read-here-requires g t c = root_below (cells g.G.Grade.coded c.args.places.now) c.args.i c.requires

pub best_child-requires : goal.best_child-requires
best_child-requires g t c = linked g.met.G.Grade.laws (cells g.G.Grade.coded c.args.places.now) c.args.i c.requires c.read-here.ensures

pub pull-freed-requires : goal.pull-freed-requires
pull-freed-requires g t c κs within =
    let w =
    pull_asks g.met.G.Grade.laws (cells g.G.Grade.coded c.args.places.now) c.args.i c.requires c.read-here.ensures (choice_of g.G.Grade.coded c.in-Some.best) c.in-Some.ensures c.part.ensures in
    (omega (arith, c.decreases, w.0), (within, w.1))

pub returns-in-None : goal.returns-in-None
returns-in-None g t c = pull_none g.met.G.Grade.laws (cells g.G.Grade.coded c.args.places.now) c.args.i c.requires c.read-here.ensures c.in-None.ensures

pub returns-in-Some : goal.returns-in-Some
returns-in-Some g t c =
    pull_does g.met.G.Grade.laws (cells g.G.Grade.coded c.args.places.now) c.args.i c.requires c.read-here.ensures (choice_of g.G.Grade.coded c.in-Some.best) c.in-Some.ensures c.part.ensures
    c.pull-freed.ensures (cells g.G.Grade.coded c.write.new.places) (c.write.ensures.there ∙ c.relinked.ensures) c.write.ensures.elsewhere
