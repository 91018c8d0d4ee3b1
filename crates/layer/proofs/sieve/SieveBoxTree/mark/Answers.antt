use Rattle.grade.specs.Kind.{codes}
use Rattle.std.proofs.lemmas.Result.{err_from_is_err_and}
use Rattle.layer.proofs.Replies.{kept_mark, under_lawful, no_mark}
use Rattle.layer.proofs.sieve.SieveBoxTree.mark.Goals as goal

pub returns-in_err-m : goal.returns-in_err-m
returns-in_err-m g c =
    let o = codes g.T.G.Grade.coded c.args.self.now.least in
    let L = g.met.T.G.Grade.laws in
    let m = c.in_err-m.ensures in
    let p = err_from_is_err_and c.from_residual.result c.from_residual.ensures.1 in
    record { is = rw p.1 (no_mark L m.lawful o c.args.b _ m.is); lawful = under_lawful L m.lawful o }

pub returns : goal.returns
returns g c =
    let s = c.args.self.now in
    let code = g.T.G.Grade.coded in
    let L = g.met.T.G.Grade.laws in
    let m = c.in_ok-m.ensures in
    record {
      is = rw (c.ok_or.ensures.value, c.then_some.ensures) (kept_mark L m.lawful code s.least c.args.b c.in_ok-m.m c.leaves.result m.is c.leaves.ensures);
      lawful = under_lawful L m.lawful (codes code s.least);
    }
