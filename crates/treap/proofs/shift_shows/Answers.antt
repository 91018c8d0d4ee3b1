use Rattle.treap.proofs.Layers.{shift_shows_lem}
use Rattle.treap.proofs.shift_shows.Goals as goal

pub returns : goal.returns
returns c = shift_shows_lem
