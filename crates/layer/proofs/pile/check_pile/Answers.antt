use Rattle.std.proofs.Common.{ap, arith}
use Rattle.treap.specs.Trees.{Square}
use Rattle.boxtree.specs.Squares.{square_of}
use Rattle.boxtree.proofs.Replies.{level_small}
use Rattle.layer.specs.Piles.{layers_of}
use Rattle.layer.proofs.Piling.{bare, same_square}
use Rattle.layer.proofs.pile.check_pile.Goals as goal

pub loop-layer-init : goal.loop-layer-init
loop-layer-init g c =
    let s = c.square-square.ensures in
    let e = ap (λ (s : Square). s.level) s.is in (
      omega (arith, level_small s.lawful),
      same_square g.T.G.Grade.kind (layers_of g.T.G.Grade.coded c.args.layers.now) (bare (square_of c.square-square.result)) (g.T.BoxTree.shown c.args.below.now) s.is,
    )
