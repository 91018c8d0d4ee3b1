use Rattle.std.proofs.Common.{◌≡◌, ◌<◌, length, drop}
use Rattle.queue.specs.Waiting.{room}
use Rattle.draw.specs.Nodes.{nodes, weight}
use Rattle.draw.proofs.Running.{Running}
use Rattle.draw.proofs.search.search.Given as goal

abbrev pub invariant-loop-top : goal.invariant-loop-top
invariant-loop-top g l = record {
  room : room l.waiting ≡ room l.initial.waiting;
  size : length l.list ≡ length l.initial.list;
  left : l.listed < length l.initial.list;
  rest : drop l.listed l.list ≡ drop l.listed l.initial.list;
  running : Running g.T.G.Grade.kind g.T.G.Grade.coded (g.T.BoxTree.shown l.view.tree) l.view.window (length l.initial.list) l.waiting.held l.list l.listed l.opened;
}

abbrev pub decreases-loop-top : goal.decreases-loop-top
decreases-loop-top g l = weight (nodes g.T.G.Grade.coded (g.T.BoxTree.shown l.view.tree).tree l.waiting.held)
