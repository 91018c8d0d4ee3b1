use Rattle.treap.proofs.Meanings.{shifted_lawful}
use Rattle.layer.proofs.shift.ShiftBoxTree.ceiling.Goals as goal

pub returns-clause-lawful : goal.returns-clause-lawful
returns-clause-lawful g c =
    let s = c.args.self.now in
    shifted_lawful s.offset.rows s.offset.cols g.T.G.Grade.kind _ c.ceiling.ensures.lawful s.fits
