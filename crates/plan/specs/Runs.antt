-- Calls and answers of the code as the ledger has them, and what a run of calls on a plan comes to.
--
--   call_of code c       the call c
--   answer_of code r     what is answered, or the refusal, r
--   Ran                  a plan was opened without marks and has carried out calls: its answers are those of the ledger that is
--                        fed the side, the number of places and the calls alone, and it shows the marks of that ledger
use Rattle.std.specs.Prelude.{◌≡◌, ℕ, min, List, map, length, take, drop, Some, None, Ok, Err, Result}
use Rattle.grade.specs.Kind.{Kind}
use Rattle.treap.specs.Trees.{Lawful, unnumbered}
use Rattle.treap.specs.Plants.{plant}
use Rattle.treap.specs.Entries.{plan_square}
use Rattle.treap.specs.Ledgers as ledgers
use Rattle.boxtree.specs.Marks.{spot_of}
use Rattle.plan.specs.declared.run.Call.{Call}
use Rattle.plan.specs.declared.run.Call.TheVariants.{Enter, Regrade, Strike, Look}
use Rattle.plan.specs.declared.run.Answer.{Answer}
use Rattle.plan.specs.declared.run.Answer.TheVariants.{Done, Grade, Vacant}
use Rattle.plan.specs.declared.place.Place.{Place}
use Rattle.plan.specs.declared.refusal.PlanRefusal.{PlanRefusal}
use Rattle.plan.specs.Refusals.{refusal_number}
use Rattle.plan.specs.Plans.{Layout, Sound, ledger, shown}

abbrev pub call_of : {G : Type 0} → (G → ℕ) → Call G → ledgers.Call
call_of code (Enter m) = ledgers.enter (spot_of code m)
call_of code (Regrade m) = ledgers.regrade (spot_of code m)
call_of code (Strike row col) = ledgers.strike row col
call_of code (Look row col) = ledgers.look row col

abbrev pub answer_of : {G : Type 0} → (G → ℕ) → Result (Answer G) PlanRefusal → ledgers.Answer
answer_of code (Ok Done) = ledgers.done
answer_of code (Ok (Grade g)) = ledgers.graded (code g)
answer_of code (Ok Vacant) = ledgers.vacant
answer_of code (Err e) = ledgers.refused (refusal_number e)

-- the calls that are carried out: as many as there are answers to fill
abbrev pub carried : {G : Type 0} → (G → ℕ) → List (Call G) → ℕ → List ledgers.Call
carried code calls room = map (call_of code) (take (min (length calls) room) calls)

--   sound      the plan is kept as every call keeps it
--   followed   its ledger is the one that the calls leave
--   answered   each call is answered as the ledger answers it
--   beyond     answers beyond the calls stay
--   lawful     the boxes that it shows are lawful
--   planted    they are the box tree of the marks of the ledger, up to their numbers
pub record Ran {G : Type 0} (kind : Kind) (code : G → ℕ) (l : ledgers.Ledger) (calls : List (Call G)) (before afterwards : List (Result (Answer G) PlanRefusal)) (p : Layout (Place G)) : Type 0 where
  pub sound : Sound kind code p
  pub followed : ledger code p ≡ ledgers.after l (carried code calls (length before))
  pub answered : map (answer_of code) (take (min (length calls) (length before)) afterwards) ≡ ledgers.answers l (carried code calls (length before))
  pub beyond : drop (min (length calls) (length before)) afterwards ≡ drop (min (length calls) (length before)) before
  pub lawful : Lawful kind (shown code p)
  pub planted : unnumbered (shown code p).tree ≡ plant kind (plan_square l.level) (ledgers.entries (ledgers.after l (carried code calls (length before))))

-- what is answered to opening a plan and carrying out calls on it
abbrev pub Told : {G : Type 0} → Kind → (G → ℕ) → ℕ → ℕ → List (Call G) → List (Result (Answer G) PlanRefusal) → List (Result (Answer G) PlanRefusal) → Result (Layout (Place G)) PlanRefusal → Type 0
Told kind code h places calls before afterwards (Ok p) =
    (ledgers.open_refusal h places ≡ None) × Ran kind code (ledgers.blank h places) calls before afterwards p
Told kind code h places calls before afterwards (Err e) =
    (ledgers.open_refusal h places ≡ Some (refusal_number e)) × (afterwards ≡ before)
