use Rattle.treap.proofs.Counted.{one_draw_lem}
use Rattle.treap.proofs.one_draw.Goals as goal

pub returns : goal.returns
returns c = one_draw_lem
