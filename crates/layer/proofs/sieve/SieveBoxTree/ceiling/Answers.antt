use Rattle.grade.specs.Kind.{codes}
use Rattle.layer.proofs.Replies.{under_lawful}
use Rattle.layer.proofs.sieve.SieveBoxTree.ceiling.Goals as goal

pub returns-clause-lawful : goal.returns-clause-lawful
returns-clause-lawful g c = under_lawful g.met.T.G.Grade.laws c.ceiling.ensures.lawful (codes g.T.G.Grade.coded c.args.self.now.least)
