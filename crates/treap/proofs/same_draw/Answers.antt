use Rattle.treap.proofs.Piles.{same_draw_lem}
use Rattle.treap.proofs.same_draw.Goals as goal

pub returns : goal.returns
returns c = same_draw_lem
