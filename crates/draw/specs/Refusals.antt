-- Why a draw is turned down, by number.
--
--   refusal_number e   the number of the refusal
use Rattle.std.specs.Prelude.{ℕ}
use Rattle.draw.specs.declared.refusal.DrawRefusal.{DrawRefusal}
use Rattle.draw.specs.declared.refusal.DrawRefusal.TheVariants.{Window, List, Queue}

abbrev pub refusal_number : DrawRefusal → ℕ
refusal_number Window = 19
refusal_number List = 20
refusal_number Queue = 21
