use Rattle.std.proofs.Common.{sym}
use Rattle.boxtree.specs.Marks.{spot_of}
use Rattle.boxtree.proofs.Ranking.{stands_above, stands_below, by_cell}
use Rattle.boxtree.proofs.mark.Mark.outranks.Goals as goal

pub returns-then-not-above : goal.returns-then-not-above
returns-then-not-above g c =
    stands_above g.G.Grade.kind g.met.G.Grade.laws (spot_of g.G.Grade.coded c.args.self) (spot_of g.G.Grade.coded c.args.other) (sym c.if-not-above.ensures)

pub returns-then-not-above-2 : goal.returns-then-not-above-2
returns-then-not-above-2 g c =
    stands_below g.G.Grade.kind g.met.G.Grade.laws (spot_of g.G.Grade.coded c.args.self) (spot_of g.G.Grade.coded c.args.other) (sym c.if-not-above-2.ensures)

pub returns-else-not-above-2 : goal.returns-else-not-above-2
returns-else-not-above-2 g c =
    by_cell g.G.Grade.kind g.met.G.Grade.laws (spot_of g.G.Grade.coded c.args.self) (spot_of g.G.Grade.coded c.args.other)
    (sym c.if-not-above-2.ensures) (sym c.if-not-above.ensures) c.before-else-not-above-2.result c.before-else-not-above-2.ensures
