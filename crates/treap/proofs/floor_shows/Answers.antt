use Rattle.treap.proofs.Layers.{floor_shows_lem}
use Rattle.treap.proofs.floor_shows.Goals as goal

pub returns : goal.returns
returns c = floor_shows_lem
