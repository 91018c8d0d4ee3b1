use Rattle.std.proofs.Common.{◌≡◌, ◌≤◌, drop}
use Rattle.boxtree.specs.Squares.{square_of}
use Rattle.treap.specs.Piles.{pile_refusal}
use Rattle.layer.specs.Piles.{layers_of}
use Rattle.layer.proofs.Piling.{bare}
use Rattle.layer.proofs.pile.check_pile.Given as goal

-- the square lies on the grid, and the layers that are left are refused over it as all are
abbrev pub invariant-loop-layer : goal.invariant-loop-layer
invariant-loop-layer g l =
    (l.square.level ≤ 16)
    × (pile_refusal g.T.G.Grade.kind (layers_of g.T.G.Grade.coded (drop l.layer-index l.layers)) (bare (square_of l.square)) ≡ pile_refusal g.T.G.Grade.kind (layers_of g.T.G.Grade.coded l.layers) (g.T.BoxTree.shown l.below))
