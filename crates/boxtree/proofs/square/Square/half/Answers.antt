use Rattle.std.proofs.Common.{arith, sym}
use Rattle.treap.proofs.Shown.{halves}
use Rattle.boxtree.proofs.Dividing.{at_most_16, half_is}
use Rattle.boxtree.proofs.square.Square.half.Goals as goal

pub overflow_cast-result : goal.overflow_cast-result
overflow_cast-result c = let l = at_most_16 _ _ c.requires.rows in omega arith

pub overflow_shl-result : goal.overflow_shl-result
overflow_shl-result c = let l = at_most_16 _ _ c.requires.rows in omega (arith, c.requires.deep)

pub returns : goal.returns
returns c =
    let e = half_is _ _ c.requires.deep c.requires.rows in
    let h = halves _ c.requires.deep in
    record { is = e; twice = rw e (sym h) }
