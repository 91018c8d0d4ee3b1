use Rattle.std.proofs.Common.{arith}
use Rattle.layer.proofs.Piling.{next_small, laid}
use Rattle.layer.proofs.pile.Pile.over.Goals as goal

pub overflow_add-offset : goal.overflow_add-offset
overflow_add-offset g c =
    let l = c.loop-layer in
    let v = c.in-Shift in
    let f =
    next_small g.T.G.Grade.kind g.T.G.Grade.coded c.args.layers.now (g.T.BoxTree.shown c.args.below.now) g.met.T.G.Grade.laws c.square.ensures.lawful c.requires
    l.layer-index l.least l.offset.rows l.offset.cols l.invariant c.layer-item.result c.loop-layer-test.true c.layer-item.is v.rows v.cols v.is in
    omega (arith, f.0)

pub overflow_add-offset-in-Shift : goal.overflow_add-offset-in-Shift
overflow_add-offset-in-Shift g c =
    let l = c.loop-layer in
    let v = c.in-Shift in
    let f =
    next_small g.T.G.Grade.kind g.T.G.Grade.coded c.args.layers.now (g.T.BoxTree.shown c.args.below.now) g.met.T.G.Grade.laws c.square.ensures.lawful c.requires
    l.layer-index l.least l.offset.rows l.offset.cols l.invariant c.layer-item.result c.loop-layer-test.true c.layer-item.is v.rows v.cols v.is in
    omega (arith, f.1)

pub invariant_of-result : goal.invariant_of-result
invariant_of-result g c =
    let l = c.loop-layer in
    record {
      fits =
          (laid g.T.G.Grade.kind g.T.G.Grade.coded c.args.layers.now (g.T.BoxTree.shown c.args.below.now) g.met.T.G.Grade.laws c.square.ensures.lawful c.requires
          l.layer-index l.least l.offset.rows l.offset.cols l.invariant c.loop-layer-test.false).0;
    }

pub returns-clause-shows : goal.returns-clause-shows
returns-clause-shows g c =
    let l = c.loop-layer in
    (laid g.T.G.Grade.kind g.T.G.Grade.coded c.args.layers.now (g.T.BoxTree.shown c.args.below.now) g.met.T.G.Grade.laws c.square.ensures.lawful c.requires
    l.layer-index l.least l.offset.rows l.offset.cols l.invariant c.loop-layer-test.false).1
