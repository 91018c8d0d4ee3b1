-- The refusal of a shift, by number.
--
--   shift_number e     the number of the refusal
--   shift_numbered r   none, or the number of the refusal
use Rattle.std.specs.Prelude.{ℕ, Some, None, Ok, Err, Option, Result}
use Rattle.layer.specs.declared.refusal.PastEdge.{PastEdge}

abbrev pub shift_number : PastEdge → ℕ
shift_number e = 18

abbrev pub shift_numbered : Result (Unit {0}) PastEdge → Option ℕ
shift_numbered (Ok u) = None
shift_numbered (Err e) = Some (shift_number e)
