use Rattle.std.proofs.Common.{false}
use Rattle.grade.specs.Kind.{codes}
use Rattle.std.proofs.lemmas.Result.{err_from_is_err_and}
use Rattle.layer.proofs.Replies.{no_mark, kept_mark, no_box, no_quadrant, no_child, left_child}
use Rattle.layer.proofs.sieve.SieveBoxTree.child.Goals as goal

pub returns-in_err-m : goal.returns-in_err-m
returns-in_err-m g c =
    let s = c.args.self.now in
    let L = g.met.T.G.Grade.laws in
    let m = c.in_err-m.ensures in
    let code = g.T.G.Grade.coded in
    let p = err_from_is_err_and c.from_residual.result c.from_residual.ensures.1 in
    rw p.1 (no_box L m.lawful code s.least c.args.b c.args.q _ (no_mark L m.lawful (codes code s.least) c.args.b _ m.is))

pub returns-then-not-leaves : goal.returns-then-not-leaves
returns-then-not-leaves g c =
    let s = c.args.self.now in
    let L = g.met.T.G.Grade.laws in
    let m = c.in_ok-m.ensures in
    let code = g.T.G.Grade.coded in
    no_box L m.lawful code s.least c.args.b c.args.q _ (kept_mark L m.lawful code s.least c.args.b c.in_ok-m.m false m.is c.if-not-leaves.ensures)

pub returns-in_err-c : goal.returns-in_err-c
returns-in_err-c g c =
    let m = c.in_ok-m.ensures in
    let p = err_from_is_err_and c.from_residual-in_err-c.result c.from_residual-in_err-c.ensures.1 in
    rw p.1 (no_quadrant g.met.T.G.Grade.laws m.lawful g.T.G.Grade.coded c.args.self.now.least c.args.b c.args.q c.in_ok-m.m m.is c.if-not-leaves.ensures _ c.in_err-c.ensures)

pub returns-in_default : goal.returns-in_default
returns-in_default g c =
    let m = c.in_ok-m.ensures in
    no_child g.met.T.G.Grade.laws m.lawful g.T.G.Grade.coded c.args.self.now.least c.args.b c.args.q c.in_ok-m.m m.is c.if-not-leaves.ensures
    (rw c.in_default.is at c.in_ok-c.ensures)

pub returns : goal.returns
returns g c =
    let m = c.in_ok-m.ensures in
    rw (c.then_some.ensures, c.is_ok.ensures.value)
    (left_child g.met.T.G.Grade.laws m.lawful g.T.G.Grade.coded c.args.self.now.least c.args.b c.args.q c.in_ok-m.m m.is c.if-not-leaves.ensures
    c.in-Some.c (rw c.in-Some.is at c.in_ok-c.ensures) c.mark-2.result c.mark-2.ensures.is)
