use Rattle.std.proofs.Common.{sym, ap, ◌∙◌, subst₂, arith}
use Rattle.treap.specs.Trees.{Square, Tree}
use Rattle.boxtree.specs.Squares.{square_of}
use Rattle.boxtree.specs.Quadrants.{quadrant_of}
use Rattle.draw.specs.Nodes.{Looked, noded, node}
use Rattle.draw.specs.Scenes.{Scene}
use Rattle.draw.proofs.Looking.{kid, quadrant_level}
use Rattle.draw.proofs.view.View.child.Goals as goal

pub part-requires : goal.part-requires
part-requires g c =
    (kid (λ x. g.T.BoxTree.shown x) (ap (λ (s : Scene _). s.tree) c.self.view_is) c.self.invariant.1
    (node g.T.G.Grade.coded (g.T.BoxTree.shown c.args.self.now.tree).tree c.args.entry) c.requires (quadrant_of c.args.q) c.from.result c.from.ensures
    c.child.result c.in_ok-ok.field-0 c.in_ok-number.number c.child.ensures (sym c.ok.ensures.value ∙ c.in_ok-ok.was) c.in_ok-number.was).divided

pub look-requires : goal.look-requires
look-requires g c =
    let k = kid (λ x. g.T.BoxTree.shown x) (ap (λ (s : Scene _). s.tree) c.self.view_is) c.self.invariant.1
    (node g.T.G.Grade.coded (g.T.BoxTree.shown c.args.self.now.tree).tree c.args.entry) c.requires (quadrant_of c.args.q) c.from.result c.from.ensures
    c.child.result c.in_ok-ok.field-0 c.in_ok-number.number c.child.ensures (sym c.ok.ensures.value ∙ c.in_ok-ok.was) c.in_ok-number.was in
    let e = ap (λ (s : Square). s.level) c.part.ensures ∙ quadrant_level (quadrant_of c.args.q) (square_of c.args.entry.square) in
    omega (arith, k.low)

pub returns : goal.returns
returns g c =
    let k = kid (λ x. g.T.BoxTree.shown x) (ap (λ (s : Scene _). s.tree) c.self.view_is) c.self.invariant.1
    (node g.T.G.Grade.coded (g.T.BoxTree.shown c.args.self.now.tree).tree c.args.entry) c.requires (quadrant_of c.args.q) c.from.result c.from.ensures
    c.child.result c.in_ok-ok.field-0 c.in_ok-number.number c.child.ensures (sym c.ok.ensures.value ∙ c.in_ok-ok.was) c.in_ok-number.was in
    subst₂ (λ (r : Square) (u : Tree). Looked c.args.self.now.window r u (noded g.T.G.Grade.coded (g.T.BoxTree.shown c.args.self.now.tree).tree c.look.result))
    c.part.ensures k.box c.look.ensures
