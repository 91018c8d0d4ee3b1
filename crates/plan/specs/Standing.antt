-- What the calls that go down the tree of a plan ask of the places, and what they leave there. A tree stands in the places
-- of its boxes alone, so a change in one quadrant leaves the others as they were.
--
--   tree_in s at o         the tree of the square s whose root is in the place o
--   Stands k s bound t     the tree is ordered in the square, which fits a plan, no cell has two marks, no two boxes one
--                          place, and each place is below the bound, which a link can tell
--   Found row col t o      o is the mark of the tree in the cell, or none where it has none
--   Sinks, Sunk            a mark is asked to go into a tree; it has gone, into the place fresh
--   Lifted                 a mark is taken out of a tree, and a place is free
--   Moves, Moved           the box of one place is asked to move to another; it has moved
use Rattle.std.specs.Prelude.{◌≡◌, ℕ, suc, ◌<◌, ◌≤◌, ◌⊎◌, Some, None, Option, ◌≢◌}
use Rattle.grade.specs.Kind.{Kind}
use Rattle.treap.specs.Spots.{Spot}
use Rattle.treap.specs.Trees.{Quadrant, Square, Tree, Shows, Holds, Ordered}
use Rattle.treap.specs.Sums.{in_cell, held, Alone}
use Rattle.treap.specs.Changes.{Gains, Loses, Renumbers}
use Rattle.plan.specs.Squares.{Fits}
use Rattle.plan.specs.Places.{Cell, Below, link, tree_at}

abbrev pub tree_in : Square → (ℕ → Cell) → Option ℕ → Tree
tree_in s at o = tree_at (suc s.level) at o

-- each box right below the place is in a place below the bound
abbrev pub Linked : ℕ → Cell → Type 0
Linked bound p = (q : Quadrant) → Below bound (link q p)

pub record Stands (k : Kind) (s : Square) (bound : ℕ) (t : Tree) : Type 0 where
  pub fits : Fits s
  pub few : bound ≤ 65535
  pub ordered : Ordered k s t
  pub alone : Alone t
  pub single : (n : ℕ) → held n t ≤ 1
  pub under : (n : ℕ) → bound ≤ n → held n t ≡ 0

abbrev pub Found : ℕ → ℕ → Tree → Option Spot → Type 0
Found row col t None = in_cell row col t ≡ 0
Found row col t (Some x) = Shows t x × (x.row ≡ row) × (x.col ≡ col)

-- the grade of a mark that may be absent
abbrev pub grade_of : Option Spot → Option ℕ
grade_of None = None
grade_of (Some x) = Some x.grade

pub record Sinks (k : Kind) (s : Square) (bound : ℕ) (m : Spot) (fresh : ℕ) (t : Tree) : Type 0 where
  pub stands : Stands k s bound t
  pub holds : Holds k s m
  pub free : in_cell m.row m.col t ≡ 0
  pub unused : held fresh t ≡ 0
  pub room : fresh < bound

-- the root's place, or another where there is no root
abbrev pub place_or : ℕ → Option ℕ → ℕ
place_or fresh None = fresh
place_or fresh (Some i) = i

pub record Sunk (k : Kind) (s : Square) (m : Spot) (fresh : ℕ) (at : ℕ → Cell) (o : Option ℕ) (bt : ℕ → Cell) (r : ℕ) : Type 0 where
  pub gains : Gains k s m fresh (tree_in s at o) (tree_in s bt (Some r))
  pub outside : (n : ℕ) → held n (tree_in s at o) ≡ 0 → (n ≢ fresh) → bt n ≡ at n
  pub root : r ≡ place_or fresh o

pub record Lifted (k : Kind) (s : Square) (m : Spot) (at : ℕ → Cell) (o : Option ℕ) (bt : ℕ → Cell) (r : Option ℕ) (free : ℕ) : Type 0 where
  pub loses : Loses k s m free (tree_in s at o) (tree_in s bt r)
  pub outside : (n : ℕ) → held n (tree_in s at o) ≡ 0 → bt n ≡ at n
  pub root : (r ≡ None) ⊎ (r ≡ o)

pub record Moves (k : Kind) (s : Square) (bound : ℕ) (at : ℕ → Cell) (m : Spot) (from to : ℕ) (t : Tree) : Type 0 where
  pub stands : Stands k s bound t
  pub held_once : held from t ≡ 1
  pub unused : held to t ≡ 0
  pub room : to < bound
  pub mark : m ≡ (at from).mark

pub record Moved (k : Kind) (s : Square) (from to : ℕ) (at : ℕ → Cell) (o : Option ℕ) (bt : ℕ → Cell) (r : Option ℕ) : Type 0 where
  pub renumbers : Renumbers k s from to (tree_in s at o) (tree_in s bt r)
  pub outside : (n : ℕ) → held n (tree_in s at o) ≡ 0 → (n ≢ to) → bt n ≡ at n
  pub root : ((o ≡ Some from) × (r ≡ Some to)) ⊎ ((o ≢ Some from) × (r ≡ o))
