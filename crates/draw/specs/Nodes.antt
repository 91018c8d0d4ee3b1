-- The boxes that the entries of a queue stand for, and what is told of a box by looking at it.
--
--   Upright w         the window is not turned round
--   touching s w      the test whether the square and an upright window share a cell
--   seeing w m        the test whether the mark lies in the window
--   node code t e     the box that an entry stands for in the tree t; likewise noded of an entry that may be absent, nodes of a list
--   Looked w r u o    o is the box u in the square r, if there is one and it touches the window
--   weight l          how many boxes there are in and below those of the list
use Rattle.std.specs.Prelude.{◌≡◌, ℕ, ◌+◌, ◌^◌, ◌≤◌, Bool, ◌&&◌, ◌⊎◌, List, map, Some, None, sum_by, Option, nat_le, nat_lt}
use Rattle.treap.specs.Spots.{Spot}
use Rattle.treap.specs.Trees.{Square, Tree, none, sub, find, count}
use Rattle.treap.specs.Draws.{Window, Touches}
use Rattle.treap.specs.Searches.{Node, tree}
use Rattle.boxtree.specs.Marks.{spot_of}
use Rattle.boxtree.specs.Squares.{square_of}
use Rattle.draw.specs.declared.entry.Entry.{Entry}

abbrev pub Upright : Window → Type 0
Upright w = (w.top ≤ w.bottom) × (w.left ≤ w.right)

abbrev pub touching : Square → Window → Bool
touching s w = (nat_le s.top w.bottom && nat_lt w.top (s.top + 2 ^ s.level)) && (nat_le s.left w.right && nat_lt w.left (s.left + 2 ^ s.level))

abbrev pub seeing : Window → Spot → Bool
seeing w m = (nat_le w.top m.row && nat_le m.row w.bottom) && (nat_le w.left m.col && nat_le m.col w.right)

abbrev pub node : {G : Type 0} → (G → ℕ) → Tree → Entry G → Node
node code t e = record {
  square = square_of e.square;
  number = e.number;
  mark = spot_of code e.mark;
  a = sub 0 (find e.number t);
  b = sub 1 (find e.number t);
  c = sub 2 (find e.number t);
  d = sub 3 (find e.number t);
}

abbrev pub noded : {G : Type 0} → (G → ℕ) → Tree → Option (Entry G) → Option Node
noded code t None = None
noded code t (Some e) = Some (node code t e)

abbrev pub nodes : {G : Type 0} → (G → ℕ) → Tree → List (Entry G) → List Node
nodes code t l = map (node code t) l

abbrev pub Looked : Window → Square → Tree → Option Node → Type 0
Looked w r u None = (u ≡ none) ⊎ (Touches r w → ⊥)
Looked w r u (Some e) = (e.square ≡ r) × (tree e ≡ u) × Touches r w

abbrev pub weight : List Node → ℕ
weight l = sum_by (λ e. count (tree e)) l
