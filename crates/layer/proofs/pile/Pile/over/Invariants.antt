use Rattle.std.proofs.Common.{◌≡◌, drop}
use Rattle.treap.specs.Piles.{summed, summed_from}
use Rattle.layer.specs.Piles.{layers_of, sum_of}
use Rattle.layer.proofs.pile.Pile.over.Given as goal

-- the layers laid so far and those that are left come to what all come to
abbrev pub invariant-loop-layer : goal.invariant-loop-layer
invariant-loop-layer g l =
    summed_from g.T.G.Grade.kind (sum_of g.T.G.Grade.coded l.least l.offset.rows l.offset.cols) (layers_of g.T.G.Grade.coded (drop l.layer-index l.layers)) ≡ summed g.T.G.Grade.kind (layers_of g.T.G.Grade.coded l.layers)
