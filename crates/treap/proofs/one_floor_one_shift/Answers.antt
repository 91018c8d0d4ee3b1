use Rattle.treap.proofs.Summed.{one_floor_one_shift_lem}
use Rattle.treap.proofs.one_floor_one_shift.Goals as goal

pub returns : goal.returns
returns c = one_floor_one_shift_lem
