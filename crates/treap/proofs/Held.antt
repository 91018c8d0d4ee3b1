-- A number finds a box exactly where a box has it.
use Rattle.std.proofs.Common.{◌≡◌, ℕ, refl, arith}
use Rattle.treap.specs.Trees.{Tree, none, box, find}
use Rattle.treap.specs.Sums.{held}

pub unheld_none : (n : ℕ) (t : Tree) → held n t ≡ 0 → find n t ≡ none
unheld_none n none h = refl
unheld_none n (box i m a b c d) h = grind (arith, unheld_none n a, unheld_none n b, unheld_none n c, unheld_none n d)

pub none_unheld : (n : ℕ) (t : Tree) → find n t ≡ none → held n t ≡ 0
none_unheld n none e = refl
none_unheld n (box i m a b c d) e = grind (arith, none_unheld n a, none_unheld n b, none_unheld n c, none_unheld n d)
