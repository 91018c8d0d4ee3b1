-- The boxes of a plan by their numbers. The number of a box is its place.
--
--   BoxRead code t r   r is the place that holds the first box of t, whose children it names; absent where t has no box
use Rattle.std.specs.Prelude.{◌≡◌, ℕ, Ok, Err, Result}
use Rattle.treap.specs.Trees.{Quadrant, index, Tree, none}
use Rattle.boxtree.specs.declared.refusal.Absent.{Absent}
use Rattle.boxtree.specs.Marks.{spot_of}
use Rattle.boxtree.specs.Answers.{child_of, mark_of}
use Rattle.plan.specs.declared.place.Place.{Place}
use Rattle.plan.specs.Places.{cell_of, link}

abbrev pub BoxRead : {G : Type 0} → (G → ℕ) → Tree → Result (Place G) Absent → Type 0
BoxRead code t (Ok p) =
    (Ok (spot_of code p.mark) ≡ mark_of t) × ((q : Quadrant) → Ok (link q (cell_of code p)) ≡ child_of (index q) t)
BoxRead code t (Err e) = t ≡ none
