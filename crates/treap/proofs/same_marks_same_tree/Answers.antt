use Rattle.treap.proofs.Entries.{same_marks_same_tree_lem}
use Rattle.treap.proofs.same_marks_same_tree.Goals as goal

pub returns : goal.returns
returns c = same_marks_same_tree_lem
