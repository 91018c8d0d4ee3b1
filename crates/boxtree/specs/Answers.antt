-- What a box tree answers, of a box and all below it. A tree without a box stands for a box that is not shown.
--
--   child_of q t       the number of the child in quadrant q of the box, or none; absent if there is no box or q is above 3
--   mark_of t          the mark of the box; absent if there is no box
--   spotted code r     an answered mark of the code as the theory has it
use Rattle.std.specs.Prelude.{ℕ, cond, Ok, Err, Option, Result, nat_lt}
use Rattle.treap.specs.Spots.{Spot}
use Rattle.treap.specs.Trees.{Tree, none, box, number, sub}
use Rattle.boxtree.specs.declared.mark.Mark.{Mark}
use Rattle.boxtree.specs.declared.refusal.Absent.{Absent}
use Rattle.boxtree.specs.Marks.{spot_of}

abbrev pub absent : Absent
absent = record {}

abbrev pub child_of : ℕ → Tree → Result (Option ℕ) Absent
child_of q none = Err absent
child_of q (box i m a b c d) = cond (nat_lt q 4) (Ok (number (sub q (box i m a b c d)))) (Err absent)

abbrev pub mark_of : Tree → Result Spot Absent
mark_of none = Err absent
mark_of (box i m a b c d) = Ok m

abbrev pub spotted : {G : Type 0} → (G → ℕ) → Result (Mark G) Absent → Result Spot Absent
spotted code (Ok m) = Ok (spot_of code m)
spotted code (Err e) = Err e
