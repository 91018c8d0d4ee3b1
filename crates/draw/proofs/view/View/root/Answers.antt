use Rattle.std.proofs.Common.{ap, arith}
use Rattle.treap.specs.Trees.{Square}
use Rattle.boxtree.proofs.Replies.{level_small}
use Rattle.draw.proofs.view.View.root.Goals as goal

pub look-requires : goal.look-requires
look-requires g c =
    let h = level_small c.square.ensures.lawful in
    let e = ap (λ (s : Square). s.level) c.square.ensures.is in omega arith
