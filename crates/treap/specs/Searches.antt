-- Boxes that a search of a window meets.
--
--   Node            a box in its square
--   tree e          the box with all below it
--   child e q       what stands in its quadrant q
--   Share r s       the two squares share a cell
--   Spread l        no two boxes of the list share a cell
--   KidsBelow w f n l
--                   the boxes of the list are those in the first n quadrants of f that touch the window
use Rattle.std.specs.Prelude.{◌≡◌, ℕ, ◌<◌, List, [], ◌∷◌}
use Rattle.treap.specs.Spots.{Spot}
use Rattle.treap.specs.Trees.{Quadrant, index, Square, Within, quadrant, Tree, box, pick, In}
use Rattle.treap.specs.Draws.{Window, Touches}

pub record Node : Type 0 where
  pub square : Square
  pub number : ℕ
  pub mark : Spot
  pub a : Tree
  pub b : Tree
  pub c : Tree
  pub d : Tree

abbrev pub tree : Node → Tree
tree e = box e.number e.mark e.a e.b e.c e.d

abbrev pub child : Node → Quadrant → Tree
child e q = pick e.a e.b e.c e.d q

pub record Share (r s : Square) : Type 0 where
  pub row : ℕ
  pub col : ℕ
  pub first : Within r row col
  pub second : Within s row col

abbrev pub Spread : List Node → Type 0
Spread [] = Unit {0}
Spread (e ∷ l) = ((f : Node) → In l f → Share e.square f.square → ⊥) × Spread l

pub record KidsBelow (w : Window) (f : Node) (n : ℕ) (kids : List Node) : Type 0 where
  pub are : (e : Node) → In kids e → (q : Quadrant) × (e.square ≡ quadrant q f.square) × (tree e ≡ child f q) × Touches e.square w × (index q < n)
  pub all : (e : Node) (q : Quadrant) → index q < n → e.square ≡ quadrant q f.square → tree e ≡ child f q → Touches e.square w → In kids e
  pub spread : Spread kids
