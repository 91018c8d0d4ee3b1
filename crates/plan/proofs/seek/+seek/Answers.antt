use Rattle.std.proofs.Common.{sym, arith}
use Rattle.boxtree.specs.Quadrants.{quadrant_of}
use Rattle.plan.specs.Places.{cells}
use Rattle.plan.proofs.Descent.{in_places}
use Rattle.plan.proofs.Seeking.{seek_asks, found_below}
use Rattle.plan.proofs.seek.+seek.Goals as goal

pub read-here-requires : goal.read-here-requires
read-here-requires g t c = in_places (cells g.G.Grade.coded c.args.places.now) c.requires.stands c.in_ok-root.was

pub seek-requires : goal.seek-requires
seek-requires g t c κs within =
    let w =
    seek_asks c.requires.inside (cells g.G.Grade.coded c.args.places.now) c.requires.stands c.in_ok-root.was c.read-here.ensures (sym c.if-stands_in.ensures)
    (quadrant_of c.quadrant_at-q.result) c.quadrant_at-q.ensures c.part.ensures c.link.ensures in
    (omega (arith, c.decreases, w.0), (within, w.1))

pub returns : goal.returns
returns g t c =
    found_below c.requires.inside (cells g.G.Grade.coded c.args.places.now) c.requires.stands c.in_ok-root.was c.read-here.ensures (sym c.if-stands_in.ensures)
    (quadrant_of c.quadrant_at-q.result) c.quadrant_at-q.ensures c.part.ensures c.link.ensures _ c.seek.ensures
