-- The marks of the code as the theory has them, where a grade is its code.
--
--   spot_of code m       the mark m
--   spots_of code o      a mark that may be absent
use Rattle.std.specs.Prelude.{ℕ, Some, None, Option}
use Rattle.treap.specs.Spots.{Spot}
use Rattle.boxtree.specs.declared.mark.Mark.{Mark}

abbrev pub spot_of : {G : Type 0} → (G → ℕ) → Mark G → Spot
spot_of code m = record { row = m.row; col = m.col; grade = code m.grade }

abbrev pub spots_of : {G : Type 0} → (G → ℕ) → Option (Mark G) → Option Spot
spots_of code None = None
spots_of code (Some m) = Some (spot_of code m)
