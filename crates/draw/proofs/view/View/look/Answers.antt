use Rattle.std.proofs.Common.{◌≡◌, sym, refl, ap, ◌∙◌, subst}
use Rattle.treap.specs.Trees.{find}
use Rattle.treap.specs.Draws.{Window}
use Rattle.boxtree.specs.Answers.{mark_of, spotted}
use Rattle.boxtree.specs.Squares.{square_of}
use Rattle.draw.specs.Nodes.{Upright}
use Rattle.draw.specs.Scenes.{Scene}
use Rattle.draw.proofs.Looking.{found_box, mark_told, touching_yes}
use Rattle.draw.proofs.view.View.look.Goals as goal

pub returns : goal.returns
returns g c =
    let code = g.T.G.Grade.coded in
    let scene = c.args.self.now in
    let t = (g.T.BoxTree.shown scene.tree).tree in
    let upright = subst (λ (w : Window). Upright w) (ap (λ (s : Scene _). s.window) c.self.view_is) c.self.invariant.0 in
    let answer = subst (λ (x : _). spotted code c.mark.result ≡ mark_of (find c.args.number (g.T.BoxTree.shown x).tree)) (ap (λ (s : Scene _). s.tree) c.self.view_is) c.mark.ensures.is in (
      refl,
      found_box t c.args.number _ (mark_told code c.mark.result c.in_ok-mark.mark _ answer (sym c.ok.ensures.value ∙ c.in_ok-mark.was)),
      touching_yes (square_of c.args.square) scene.window upright (sym c.touches.ensures ∙ c.if-not-touches.false),
    )
