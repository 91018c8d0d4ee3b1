-- The refusal of a box tree, by number.
--
--   absent_number e   the number of the refusal
use Rattle.std.specs.Prelude.{ℕ}
use Rattle.boxtree.specs.declared.refusal.Absent.{Absent}

abbrev pub absent_number : Absent → ℕ
absent_number e = 22
