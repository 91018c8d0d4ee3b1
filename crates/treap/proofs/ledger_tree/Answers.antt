use Rattle.treap.proofs.Entries.{ledger_tree_lem}
use Rattle.treap.proofs.ledger_tree.Goals as goal

pub returns : goal.returns
returns c = ledger_tree_lem
