use Rattle.std.proofs.Common.{ap, arith}
use Rattle.treap.specs.Trees.{Square}
use Rattle.boxtree.proofs.Replies.{level_small}
use Rattle.layer.proofs.shift.check_shift.Goals as goal

pub past_edge-requires : goal.past_edge-requires
past_edge-requires g c =
    let e = ap (λ (s : Square). s.level) c.square.ensures.is in
    omega (arith, level_small c.square.ensures.lawful)
