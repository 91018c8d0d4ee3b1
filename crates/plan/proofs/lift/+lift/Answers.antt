use Rattle.std.proofs.Common.{sym, ◌∙◌, arith}
use Rattle.boxtree.specs.Marks.{spot_of}
use Rattle.boxtree.specs.Quadrants.{quadrant_of}
use Rattle.boxtree.specs.Squares.{square_of}
use Rattle.plan.specs.Places.{cells}
use Rattle.plan.proofs.Descent.{in_places}
use Rattle.plan.proofs.Lifting.{rooted, lift_here, lift_divides, lift_asks, lift_link, lift_does}
use Rattle.plan.proofs.lift.+lift.Goals as goal

pub unwrap-i-requires : goal.unwrap-i-requires
unwrap-i-requires g t c = rooted (square_of c.args.square) (cells g.G.Grade.coded c.args.places.now) c.args.root (spot_of g.G.Grade.coded c.args.mark) c.requires.shown

pub read-here-requires : goal.read-here-requires
read-here-requires g t c = in_places (cells g.G.Grade.coded c.args.places.now) c.requires.stands c.unwrap-i.ensures

pub quadrant_at-q-requires : goal.quadrant_at-q-requires
quadrant_at-q-requires g t c =
    let w =
    lift_divides g.met.G.Grade.laws (cells g.G.Grade.coded c.args.places.now) c.requires.stands (spot_of g.G.Grade.coded c.args.mark) c.requires.shown c.unwrap-i.ensures c.read-here.ensures
    (rw c.cell-cell.ensures at (sym c.if-stands_in.ensures)) in
    record { divided = w.0; inside = rw c.cell-cell.ensures w.1 }

pub lift-freed-requires : goal.lift-freed-requires
lift-freed-requires g t c κs within =
    let w =
    lift_asks g.met.G.Grade.laws (cells g.G.Grade.coded c.args.places.now) c.requires.stands (spot_of g.G.Grade.coded c.args.mark) c.requires.shown c.unwrap-i.ensures c.read-here.ensures
    (rw c.cell-cell.ensures at (sym c.if-stands_in.ensures)) (quadrant_of c.quadrant_at-q.result) (rw c.cell-cell.ensures at c.quadrant_at-q.ensures) c.part.ensures c.link.ensures in
    (omega (arith, c.decreases, w.0), (within, w.1))

pub relinked-requires : goal.relinked-requires
relinked-requires g t c =
    lift_link g.met.G.Grade.laws (cells g.G.Grade.coded c.args.places.now) c.requires.stands (spot_of g.G.Grade.coded c.args.mark) c.requires.shown c.unwrap-i.ensures c.read-here.ensures
    (rw c.cell-cell.ensures at (sym c.if-stands_in.ensures)) (quadrant_of c.quadrant_at-q.result) (rw c.cell-cell.ensures at c.quadrant_at-q.ensures) c.part.ensures c.link.ensures c.lift-freed.ensures

pub write-requires : goal.write-requires
write-requires g t c =
    let low = in_places (cells g.G.Grade.coded c.args.places.now) c.requires.stands c.unwrap-i.ensures in
    omega (arith, low, c.lift-freed.auto.places)

pub returns-then-stands_in : goal.returns-then-stands_in
returns-then-stands_in g t c =
    lift_here g.met.G.Grade.laws (cells g.G.Grade.coded c.args.places.now) c.requires.stands (spot_of g.G.Grade.coded c.args.mark) c.requires.shown c.unwrap-i.ensures c.read-here.ensures
    (rw c.cell-cell.ensures at (sym c.if-stands_in.ensures)) c.pull.ensures

pub returns : goal.returns
returns g t c =
    lift_does g.met.G.Grade.laws (cells g.G.Grade.coded c.args.places.now) c.requires.stands (spot_of g.G.Grade.coded c.args.mark) c.requires.shown c.unwrap-i.ensures c.read-here.ensures
    (rw c.cell-cell.ensures at (sym c.if-stands_in.ensures)) (quadrant_of c.quadrant_at-q.result) (rw c.cell-cell.ensures at c.quadrant_at-q.ensures) c.part.ensures c.link.ensures c.lift-freed.ensures
    (cells g.G.Grade.coded c.write.new.places) (c.write.ensures.there ∙ c.relinked.ensures) c.write.ensures.elsewhere
