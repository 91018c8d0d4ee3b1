use Rattle.treap.proofs.Worked.{trial_draws}
use Rattle.treap.proofs.worked_draws.Goals as goal

pub returns : goal.returns
returns c = trial_draws
