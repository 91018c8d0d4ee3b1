-- Why a call on a plan is turned down, by number, and the answers of the code as the ledger has them.
--
--   refusal_number e     the number of the refusal
--   numbered r           none, or the number of the refusal
--   done_or r            done, or the number of the refusal
--   graded_or code r     the grade, or the number of the refusal
--   looked_up code r     the grade or vacant, or the number of the refusal
use Rattle.std.specs.Prelude.{ℕ, Some, None, Ok, Err, Option, Result}
use Rattle.treap.specs.Ledgers.{Answer, done, graded, vacant, refused}
use Rattle.plan.specs.declared.refusal.PlanRefusal.{PlanRefusal}
use Rattle.plan.specs.declared.refusal.PlanRefusal.TheVariants.{Side, Places, Off, Taken, Vacant, Full}

abbrev pub refusal_number : PlanRefusal → ℕ
refusal_number Side = 1
refusal_number Places = 2
refusal_number Off = 4
refusal_number Taken = 5
refusal_number Vacant = 6
refusal_number Full = 7

abbrev pub numbered : Result (Unit {0}) PlanRefusal → Option ℕ
numbered (Ok u) = None
numbered (Err e) = Some (refusal_number e)

abbrev pub done_or : Result (Unit {0}) PlanRefusal → Answer
done_or (Ok u) = done
done_or (Err e) = refused (refusal_number e)

abbrev pub graded_or : {G : Type 0} → (G → ℕ) → Result G PlanRefusal → Answer
graded_or code (Ok g) = graded (code g)
graded_or code (Err e) = refused (refusal_number e)

abbrev pub looked_up : {G : Type 0} → (G → ℕ) → Result (Option G) PlanRefusal → Answer
looked_up code (Ok (Some g)) = graded (code g)
looked_up code (Ok None) = vacant
looked_up code (Err e) = refused (refusal_number e)
