use Rattle.std.proofs.Common.{refl, ◌∙◌}
use Rattle.boxtree.specs.declared.quadrant.Quadrant.TheVariants.{TopLeft}
use Rattle.draw.proofs.Opening.{opens, comes_in, has_room, index_within}
use Rattle.draw.proofs.view.View.open_first.Goals as goal

pub loop-q-init : goal.loop-q-init
loop-q-init g c = record { room = refl; came = opens _ _ _ }

pub put-requires : goal.put-requires
put-requires g c = λ some.
    let l = c.loop-q in
    let t = (g.T.BoxTree.shown c.args.self.now.tree).tree in
    has_room g.T.G.Grade.coded t c.args.self.now.window c.args.top c.args.waiting.now.held l.waiting.held l.q-index _ (index_within c.args.n l.q-index TopLeft c.requires.quadrants c.loop-q-test.true)
    l.invariant.came c.child.result c.child.ensures _ (rw l.invariant.room c.requires.place) some

pub loop-q-preserved : goal.loop-q-preserved
loop-q-preserved g c =
    let l = c.loop-q in
    let t = (g.T.BoxTree.shown c.args.self.now.tree).tree in
    record {
      room = c.put.ensures.room ∙ l.invariant.room;
      came =
          comes_in g.T.G.Grade.coded t c.args.self.now.window c.args.top c.args.waiting.now.held l.waiting.held l.q-index _ (index_within c.args.n l.q-index TopLeft c.requires.quadrants c.loop-q-test.true)
          l.invariant.came c.child.result c.child.ensures c.put.new.waiting.held c.put.ensures.held;
    }
