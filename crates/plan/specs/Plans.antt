-- A plan: the tree that its places hold, its ledger, and what is kept of it by every call.
--
--   Layout P                     how a plan lies in places of the type P: its level, how many marks it has, and the places
--   plan_tree code h count ps    the tree of a plan of level h with count marks, over the places ps
--   Shape                        what is kept: the places 0 to count - 1 hold the boxes of a lawful tree, the root in place 0
--   Sound kind code p            the plan p is kept so
--   ledger code p                the ledger that the plan shows
--   Done                         an accepted call leaves a plan of this kind in the places, and the ledger that follows
--   Kept p q r                   a refused call leaves the plan as it was
--   Located code p row col r     r is the mark of the plan in the cell, or none where the cell is vacant, or that it lies off
use Rattle.std.specs.Prelude.{◌≡◌, ℕ, zero, suc, ◌^◌, ◌≤◌, Bool, true, false, ◌&&◌, List, length, is_some, Some, None, Ok, Err, Option, Result, nat_lt}
use Rattle.grade.specs.Kind.{Kind}
use Rattle.treap.specs.Trees.{Tree, count, Ordered, Meaning}
use Rattle.treap.specs.Sums.{one_if, held, Alone, ledger_of}
use Rattle.treap.specs.Entries.{plan_square}
use Rattle.treap.specs.Ledgers.{Ledger, Call, refusal, changed, taken}
use Rattle.boxtree.specs.declared.mark.Mark.{Mark}
use Rattle.boxtree.specs.Marks.{spots_of}
use Rattle.plan.specs.declared.place.Place.{Place}
use Rattle.plan.specs.declared.refusal.PlanRefusal.{PlanRefusal}
use Rattle.plan.specs.declared.refusal.PlanRefusal.TheVariants.{Off}
use Rattle.plan.specs.Places.{cells}
use Rattle.plan.specs.Standing.{tree_in, Found, grade_of}

pub record Layout (P : Type 0) : Type 0 where
  pub h : ℕ
  pub count : ℕ
  pub places : List P

-- the place of the root
abbrev pub root : ℕ → Option ℕ
root zero = None
root (suc n) = Some 0

abbrev pub plan_tree : {G : Type 0} → (G → ℕ) → ℕ → ℕ → List (Place G) → Tree
plan_tree code h n ps = tree_in (plan_square h) (cells code ps) (root n)

pub record Shape {G : Type 0} (kind : Kind) (code : G → ℕ) (h n : ℕ) (ps : List (Place G)) : Type 0 where
  pub height : h ≤ 10
  pub few : length ps ≤ 65535
  pub room : n ≤ length ps
  pub ordered : Ordered kind (plan_square h) (plan_tree code h n ps)
  pub alone : Alone (plan_tree code h n ps)
  pub numbered : (i : ℕ) → held i (plan_tree code h n ps) ≡ one_if (nat_lt i n)
  pub counted : count (plan_tree code h n ps) ≡ n

abbrev pub Sound : {G : Type 0} → Kind → (G → ℕ) → Layout (Place G) → Type 0
Sound kind code p = Shape kind code p.h p.count p.places

abbrev pub ledger_at : {G : Type 0} → (G → ℕ) → ℕ → ℕ → List (Place G) → Ledger
ledger_at code h n ps = ledger_of h (length ps) (plan_tree code h n ps)

abbrev pub ledger : {G : Type 0} → (G → ℕ) → Layout (Place G) → Ledger
ledger code p = ledger_at code p.h p.count p.places

-- the box tree that a plan shows
abbrev pub shown_at : {G : Type 0} → (G → ℕ) → ℕ → ℕ → List (Place G) → Meaning
shown_at code h n ps = record { square = plan_square h; ceiling = n; tree = plan_tree code h n ps }

abbrev pub shown : {G : Type 0} → (G → ℕ) → Layout (Place G) → Meaning
shown code p = shown_at code p.h p.count p.places

-- the cell lies on a plan of the level
abbrev pub on_plan : ℕ → ℕ → ℕ → Bool
on_plan h row col = nat_lt row (2 ^ h) && nat_lt col (2 ^ h)

-- an accepted call: n marks are left, and the ledger is the next one
pub record Done {G : Type 0} (kind : Kind) (code : G → ℕ) (h n : ℕ) (l : Ledger) (c : Call) (qs : List (Place G)) : Type 0 where
  pub shape : Shape kind code h n qs
  pub accepts : refusal l c ≡ None
  pub next_is : ledger_at code h n qs ≡ changed l c

abbrev pub Kept : {G : Type 0} {A : Type 0} → Layout (Place G) → Layout (Place G) → Result A PlanRefusal → Type 0
Kept p q (Ok a) = Unit {0}
Kept p q (Err e) = (q.h ≡ p.h) × (q.count ≡ p.count) × (q.places ≡ p.places)

-- what is known of a cell that lies on the plan, and of the mark in it
pub record Marked {G : Type 0} (code : G → ℕ) (p : Layout (Place G)) (row col : ℕ) (r : Option (Mark G)) : Type 0 where
  pub on : on_plan p.h row col ≡ true
  pub found : Found row col (shown code p).tree (spots_of code r)
  pub taken : is_some r ≡ taken (ledger code p) row col
  pub graded : (ledger code p).grade row col ≡ grade_of (spots_of code r)

abbrev pub Located : {G : Type 0} → (G → ℕ) → Layout (Place G) → ℕ → ℕ → Result (Option (Mark G)) PlanRefusal → Type 0
Located code p row col (Ok r) = Marked code p row col r
Located code p row col (Err e) = (e ≡ Off) × (on_plan p.h row col ≡ false)
