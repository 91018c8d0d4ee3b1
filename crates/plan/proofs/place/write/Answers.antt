use Rattle.plan.proofs.Cells.{cell_written, cell_kept}
use Rattle.plan.proofs.place.write.Goals as goal

pub returns : goal.returns
returns g c =
    rw c.from.ensures
    (record {
      there = cell_written g.G.Grade.coded c.args.places.now c.args.i c.args.place c.requires;
      elsewhere = λ n h. cell_kept g.G.Grade.coded c.args.places.now c.args.i n c.args.place h;
    })
