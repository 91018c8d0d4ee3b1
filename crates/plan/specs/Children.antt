-- The boxes right below a box, and the best of them.
--
--   Choice                  a box right below: its quadrant, its place and its mark
--   ChildAt at p q o        o is the box in quadrant q of the box p, or none
--   Better k a b r          r is the one of a and b whose mark outranks the other's
--   Best k at p r           r is the box right below p whose mark outranks those of the others, or none where there is none
use Rattle.std.specs.Prelude.{◌≡◌, ℕ, ◌⊎◌, Some, None, Option}
use Rattle.grade.specs.Kind.{Kind}
use Rattle.treap.specs.Spots.{Spot, Outranks}
use Rattle.treap.specs.Trees.{Quadrant}
use Rattle.boxtree.specs.Marks.{spot_of}
use Rattle.boxtree.specs.Quadrants.{quadrant_of}
use Rattle.plan.specs.declared.lift.Child.{Child}
use Rattle.plan.specs.Places.{Cell, link}

pub record Choice : Type 0 where
  pub quadrant : Quadrant
  pub place : ℕ
  pub mark : Spot

abbrev pub choice_of : {G : Type 0} → (G → ℕ) → Child G → Choice
choice_of code c = record { quadrant = quadrant_of c.quadrant; place = c.place; mark = spot_of code c.mark }

abbrev pub children_of : {G : Type 0} → (G → ℕ) → Option (Child G) → Option Choice
children_of code None = None
children_of code (Some c) = Some (choice_of code c)

-- the choice is the box in one of the quadrants
pub record Chosen (at : ℕ → Cell) (p : Cell) (c : Choice) : Type 0 where
  pub linked : link c.quadrant p ≡ Some c.place
  pub marked : (at c.place).mark ≡ c.mark

abbrev pub ChildAt : (ℕ → Cell) → Cell → Quadrant → Option Choice → Type 0
ChildAt at p q None = link q p ≡ None
ChildAt at p q (Some c) = (c.quadrant ≡ q) × Chosen at p c

abbrev pub Better : Kind → Option Choice → Option Choice → Option Choice → Type 0
Better k None b r = r ≡ b
Better k (Some x) None r = r ≡ Some x
Better k (Some x) (Some y) r =
    ((r ≡ Some y) × Outranks k y.mark x.mark) ⊎ ((r ≡ Some x) × (Outranks k y.mark x.mark → ⊥))

-- the choice c is not outranked by the box in quadrant q
abbrev pub StaysAbove : Kind → (ℕ → Cell) → Cell → Choice → Quadrant → Type 0
StaysAbove k at p c q = (j : ℕ) → link q p ≡ Some j → Outranks k (at j).mark c.mark → ⊥

abbrev pub Best : Kind → (ℕ → Cell) → Cell → Option Choice → Type 0
Best k at p None = (q : Quadrant) → link q p ≡ None
Best k at p (Some c) = Chosen at p c × ((q : Quadrant) → StaysAbove k at p c q)
