use Rattle.boxtree.specs.Marks.{spot_of}
use Rattle.draw.specs.Orders.{told}
use Rattle.draw.proofs.entry.EntryRanked.outranks.Goals as goal

pub returns : goal.returns
returns g c =
    told g.G.Grade.kind (spot_of g.G.Grade.coded c.args.self.mark) (spot_of g.G.Grade.coded c.args.other.mark) _ c.outranks.ensures
