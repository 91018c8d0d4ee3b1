use Rattle.treap.proofs.Counted.{some_draw_lem}
use Rattle.treap.proofs.some_draw.Goals as goal

pub returns : goal.returns
returns c = some_draw_lem
