-- Squares, box trees, and what a lawful box tree is. A box tree is worked out from the marks of a square: a box holds the best
-- mark of its square, and the quadrants divide the others among them.
--
--   Square              a square of side 2 ^ level, whose first cell is (top, left)
--   Within s row col    the cell lies in the square
--   quadrant q s        a quadrant of the square
--   Tree                no box, or a box: its number, its mark, and its four quadrants
--   number t            the number of the box at the root, if there is one
--   sub q t             what stands in quadrant q of the box at the root: 0 top left, 1 top right, 2 bottom left, 3 bottom right
--   find n t            the box with the number n and all below it
--   Shows t x           the tree holds the mark x
--   Ordered k s t       each mark is of the kind and lies in its box's square, boxes stand in quadrants of the square above, and a
--                       box's mark outranks those right below
--   Lone t              no two marks stand in one cell
--   Meaning             what a box tree shows: its square, its boxes, and a number that the count of these does not pass
--   Lawful k m          what holds of every box tree
--   unnumbered t        the tree with every box number 0
use Rattle.std.specs.Prelude.{◌≡◌, ℕ, zero, suc, pred, ◌+◌, ◌^◌, ◌<◌, ◌≤◌, cond, ◌⊎◌, List, [], ◌∷◌, ◌++◌, Some, None, Option, ◌==◌}
use Rattle.grade.specs.Kind.{Kind, Laws}
use Rattle.treap.specs.Spots.{Spot, Fair, Outranks}

pub data Quadrant : Type 0 where
  tl : Quadrant
  tr : Quadrant
  bl : Quadrant
  br : Quadrant

-- the place of a quadrant in their order
abbrev pub index : Quadrant → ℕ
index tl = 0
index tr = 1
index bl = 2
index br = 3

pub record Square : Type 0 where
  pub level : ℕ
  pub top : ℕ
  pub left : ℕ

pub record Within (s : Square) (row col : ℕ) : Type 0 where
  pub not_above : s.top ≤ row
  pub not_below : row < s.top + 2 ^ s.level
  pub not_left : s.left ≤ col
  pub not_right : col < s.left + 2 ^ s.level

abbrev pub quadrant : Quadrant → Square → Square
quadrant tl s = record { level = pred s.level; top = s.top; left = s.left }
quadrant tr s = record { level = pred s.level; top = s.top; left = s.left + 2 ^ pred s.level }
quadrant bl s = record { level = pred s.level; top = s.top + 2 ^ pred s.level; left = s.left }
quadrant br s = record { level = pred s.level; top = s.top + 2 ^ pred s.level; left = s.left + 2 ^ pred s.level }

pub data Tree : Type 0 where
  none : Tree
  box : (number : ℕ) (mark : Spot) (a b c d : Tree) → Tree

-- one of four trees
abbrev pub pick : Tree → Tree → Tree → Tree → Quadrant → Tree
pick a b c d tl = a
pick a b c d tr = b
pick a b c d bl = c
pick a b c d br = d

abbrev pub number : Tree → Option ℕ
number none = None
number (box i m a b c d) = Some i

abbrev pub sub : ℕ → Tree → Tree
sub q none = none
sub zero (box i m a b c d) = a
sub (suc zero) (box i m a b c d) = b
sub (suc (suc zero)) (box i m a b c d) = c
sub (suc (suc (suc zero))) (box i m a b c d) = d
sub (suc (suc (suc (suc q)))) (box i m a b c d) = none

-- the first of two trees that has a box
abbrev pub or : Tree → Tree → Tree
or none u = u
or (box i m a b c d) u = box i m a b c d

abbrev pub find : ℕ → Tree → Tree
find n none = none
find n (box i m a b c d) = cond (n == i) (box i m a b c d) (or (find n a) (or (find n b) (or (find n c) (find n d))))

-- how many boxes there are
abbrev pub count : Tree → ℕ
count none = 0
count (box i m a b c d) = 1 + (count a + (count b + (count c + count d)))

-- the numbers of the boxes
abbrev pub numbers : Tree → List ℕ
numbers none = []
numbers (box i m a b c d) = i ∷ (numbers a ++ (numbers b ++ (numbers c ++ numbers d)))

abbrev pub Shows : Tree → Spot → Type 0
Shows none x = ⊥
Shows (box i m a b c d) x = (x ≡ m) ⊎ Shows a x ⊎ Shows b x ⊎ Shows c x ⊎ Shows d x

-- a box holds a mark of the kind that lies in its square
pub record Holds (k : Kind) (s : Square) (m : Spot) : Type 0 where
  pub fair : Fair k m
  pub inside : Within s m.row m.col

-- below a box of the square s with the mark m: no box, or, if s has quadrants, a box whose mark m outranks
abbrev pub Hangs : Kind → Square → Spot → Tree → Type 0
Hangs k s m none = Unit {0}
Hangs k s m (box i x a b c d) = (0 < s.level) × Outranks k m x

abbrev pub Ordered : Kind → Square → Tree → Type 0
Ordered k s none = Unit {0}
Ordered k s (box i m a b c d) =
    Holds k s m
    × (Hangs k s m a × Hangs k s m b × Hangs k s m c × Hangs k s m d)
    × (Ordered k (quadrant tl s) a
    × Ordered k (quadrant tr s) b
    × Ordered k (quadrant bl s) c
    × Ordered k (quadrant br s) d)

-- x stands in the list
abbrev pub In : {A : Type 0} → List A → A → Type 0
In [] x = ⊥
In (y ∷ l) x = (x ≡ y) ⊎ In l x

-- no element stands twice
abbrev pub Apart : {A : Type 0} → List A → Type 0
Apart [] = Unit {0}
Apart (x ∷ l) = (In l x → ⊥) × Apart l

abbrev pub Lone : Tree → Type 0
Lone t = (x y : Spot) → Shows t x → Shows t y → x.row ≡ y.row → x.col ≡ y.col → x ≡ y

pub record Meaning : Type 0 where
  pub square : Square
  pub ceiling : ℕ
  pub tree : Tree

pub record Lawful (k : Kind) (m : Meaning) : Type 0 where
  pub rows : m.square.top + 2 ^ m.square.level ≤ 65536
  pub cols : m.square.left + 2 ^ m.square.level ≤ 65536
  pub counted : count m.tree ≤ m.ceiling
  pub ordered : Ordered k m.square m.tree
  pub lone : Lone m.tree
  pub apart : Apart (numbers m.tree)

abbrev pub unnumbered : Tree → Tree
unnumbered none = none
unnumbered (box i m a b c d) = box 0 m (unnumbered a) (unnumbered b) (unnumbered c) (unnumbered d)

-- one square and one set of marks have one box tree, up to the numbers of the boxes
abbrev pub OneTree : Type 0
OneTree =
    (k : Kind)
    → Laws k
    → (s : Square) (t u : Tree)
    → Ordered k s t
    → Ordered k s u
    → ((x : Spot) → Shows t x → Shows u x)
    → ((x : Spot) → Shows u x → Shows t x)
    → unnumbered t ≡ unnumbered u
