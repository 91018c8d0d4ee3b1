use Rattle.std.proofs.Common.{◌∙◌, arith}
use Rattle.boxtree.specs.Quadrants.{quadrant_of}
use Rattle.plan.specs.Places.{cells}
use Rattle.plan.proofs.Descent.{in_places}
use Rattle.plan.proofs.Moving.{move_here, move_divides, move_asks, move_link, move_does}
use Rattle.plan.proofs.relocate.+relocate.Goals as goal

pub quadrant_at-q-requires : goal.quadrant_at-q-requires
quadrant_at-q-requires g t c =
    let w = move_divides g.met.G.Grade.laws c.requires c.in_ok-i.was c.read-here.ensures c.if-i-from.false in
    record { divided = w.0; inside = rw c.cell.ensures w.1 }

pub part-requires : goal.part-requires
part-requires g t c = (move_divides g.met.G.Grade.laws c.requires c.in_ok-i.was c.read-here.ensures c.if-i-from.false).0

pub relocate-below-requires : goal.relocate-below-requires
relocate-below-requires g t c κs within =
    let w =
    move_asks g.met.G.Grade.laws c.requires c.in_ok-i.was c.read-here.ensures c.if-i-from.false
    (quadrant_of c.quadrant_at-q.result) (rw c.cell.ensures at c.quadrant_at-q.ensures) c.part.ensures c.link.ensures in
    (omega (arith, c.decreases, w.0), (within, w.1))

pub relinked-requires : goal.relinked-requires
relinked-requires g t c =
    move_link g.met.G.Grade.laws c.requires c.in_ok-i.was c.read-here.ensures c.if-i-from.false
    (quadrant_of c.quadrant_at-q.result) (rw c.cell.ensures at c.quadrant_at-q.ensures) c.part.ensures c.link.ensures c.relocate-below.ensures

pub write-requires-2 : goal.write-requires-2
write-requires-2 g t c =
    let low = in_places (cells g.G.Grade.coded c.args.places.now) c.requires.stands c.in_ok-i.was in
    omega (arith, low, c.relocate-below.auto.places)

pub returns-then-i-from : goal.returns-then-i-from
returns-then-i-from g t c =
    move_here g.met.G.Grade.laws c.requires c.in_ok-i.was c.read-here.ensures c.if-i-from.true
    (cells g.G.Grade.coded c.write.new.places) c.write.ensures.there c.write.ensures.elsewhere

pub returns : goal.returns
returns g t c =
    move_does g.met.G.Grade.laws c.requires c.in_ok-i.was c.read-here.ensures c.if-i-from.false
    (quadrant_of c.quadrant_at-q.result) (rw c.cell.ensures at c.quadrant_at-q.ensures) c.part.ensures c.link.ensures c.relocate-below.ensures
    (cells g.G.Grade.coded c.write-2.new.places) (c.write-2.ensures.there ∙ c.relinked.ensures) c.write-2.ensures.elsewhere
