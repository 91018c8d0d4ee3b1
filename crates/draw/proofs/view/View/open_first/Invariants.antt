use Rattle.std.proofs.Common.{◌≡◌}
use Rattle.queue.specs.Waiting.{room}
use Rattle.draw.specs.Nodes.{node, nodes}
use Rattle.draw.specs.Opened.{Opening}
use Rattle.draw.proofs.view.View.open_first.Given as goal

abbrev pub invariant-loop-q : goal.invariant-loop-q
invariant-loop-q g l = record {
  room : room l.waiting ≡ room l.initial.waiting;
  came : Opening l.self.window (node g.T.G.Grade.coded (g.T.BoxTree.shown l.self.tree).tree l.top) l.q-index (nodes g.T.G.Grade.coded (g.T.BoxTree.shown l.self.tree).tree l.initial.waiting.held) (nodes g.T.G.Grade.coded (g.T.BoxTree.shown l.self.tree).tree l.waiting.held);
}
