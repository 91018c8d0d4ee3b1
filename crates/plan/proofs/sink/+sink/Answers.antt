use Rattle.std.proofs.Common.{◌∙◌, arith}
use Rattle.boxtree.specs.Quadrants.{quadrant_of}
use Rattle.plan.specs.Places.{cells}
use Rattle.plan.proofs.Descent.{in_places}
use Rattle.plan.proofs.Sinking.{sink_asks, sink_does}
use Rattle.plan.proofs.sink.+sink.Goals as goal

pub read-here-requires : goal.read-here-requires
read-here-requires g t c = in_places (cells g.G.Grade.coded c.args.places.now) c.requires.stands c.in-Some.is

pub sink-below-requires : goal.sink-below-requires
sink-below-requires g t c κs within =
    let w =
    sink_asks g.met.G.Grade.laws (cells g.G.Grade.coded c.args.places.now) c.requires c.in-Some.is c.read-here.ensures c.rank_pair-pair.ensures
    (quadrant_of c.quadrant_at-q.result) (rw c.cell.ensures at c.quadrant_at-q.ensures) c.part.ensures c.link.ensures in
    (omega (arith, c.decreases, w.0), (within, w.1))

pub write-requires-in-Some : goal.write-requires-in-Some
write-requires-in-Some g t c =
    let low = in_places (cells g.G.Grade.coded c.args.places.now) c.requires.stands c.in-Some.is in
    omega (arith, low, c.sink-below.auto.places)

pub returns-in-Some : goal.returns-in-Some
returns-in-Some g t c =
    sink_does g.met.G.Grade.laws (cells g.G.Grade.coded c.args.places.now) c.requires c.in-Some.is c.read-here.ensures c.rank_pair-pair.ensures
    (quadrant_of c.quadrant_at-q.result) (rw c.cell.ensures at c.quadrant_at-q.ensures) c.part.ensures c.link.ensures c.sink-below.ensures
    (cells g.G.Grade.coded c.write-in-Some.new.places) (c.write-in-Some.ensures.there ∙ c.relinked.ensures) c.write-in-Some.ensures.elsewhere
