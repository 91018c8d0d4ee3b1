use Rattle.std.proofs.Common.{arith}
use Rattle.std.proofs.lemmas.Result.{err_from_is_err_and}
use Rattle.treap.proofs.Meanings.{shift_fits, shifted_lawful}
use Rattle.boxtree.proofs.Replies.{inside}
use Rattle.layer.proofs.Replies.{shift_absent, shift_mark}
use Rattle.layer.proofs.shift.ShiftBoxTree.mark.Goals as goal

pub returns-in_err-m : goal.returns-in_err-m
returns-in_err-m g c =
    let s = c.args.self.now in
    let m = c.in_err-m.ensures in
    let p = err_from_is_err_and c.from_residual.result c.from_residual.ensures.1 in
    record {
      is = rw p.1 (shift_absent s.offset.rows s.offset.cols (g.T.BoxTree.shown s.below.now).tree c.args.b _ m.is);
      lawful = shifted_lawful s.offset.rows s.offset.cols g.T.G.Grade.kind _ m.lawful s.fits;
    }

pub mark-requires-2 : goal.mark-requires-2
mark-requires-2 g c =
    let s = c.args.self.now in
    let m = c.in_ok-m.ensures in
    let f = shift_fits s.offset.rows s.offset.cols (g.T.BoxTree.shown s.below.now) s.fits in
    let w = inside m.lawful c.args.b m.is in
    (omega (arith, w.not_below), omega (arith, w.not_right))

pub returns-clause-is : goal.returns-clause-is
returns-clause-is g c =
    let s = c.args.self.now in
    rw c.mark-2.ensures (shift_mark s.offset.rows s.offset.cols (g.T.BoxTree.shown s.below.now).tree c.args.b c.in_ok-m.ensures.is)

pub returns-clause-lawful : goal.returns-clause-lawful
returns-clause-lawful g c =
    let s = c.args.self.now in
    shifted_lawful s.offset.rows s.offset.cols g.T.G.Grade.kind _ c.in_ok-m.ensures.lawful s.fits
