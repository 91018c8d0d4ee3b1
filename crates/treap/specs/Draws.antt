-- What a draw answers: the best marks of a window, and how many boxes have to be opened to be sure of them.
--
--   Window                 rows from top to bottom, columns from left to right, the ends among them
--   Sees w row col         the cell lies in the window
--   Touches s w            the square and the window share a cell
--   Seen t w x             the tree shows the mark, and it lies in the window
--   Falls k l              each mark of the list outranks the next
--   LastOver k l m         the list has a last mark, and that outranks m
--   Best k P n l           the list has the n best of the marks of which P holds, the best first
--   Part s t r u           u is t or stands somewhere below its root, in the square r if t stands in s
--   Justifies k s t w n l S   the boxes of the set S are reason enough for the list l, where n marks are asked for: a box
--                          outside S that touches the window, and is the root or has its parent in S, has a mark that the
--                          last listed outranks; and there is none if fewer than n are listed
--   Draws k s t w n l o    the list and the count are the answer to a draw of n marks of the window
--   draw_refusal           the number of the refusal of a draw, or none
use Rattle.std.specs.Prelude.{◌≡◌, ℕ, ◌<◌, ◌≤◌, Bool, ◌||◌, List, [], ◌∷◌, map, length, Option, ◌==◌, nat_lt}
use Rattle.grade.specs.Kind.{Kind, Laws}
use Rattle.treap.specs.Refusals.{first}
use Rattle.treap.specs.Spots.{Spot, Outranks}
use Rattle.treap.specs.Trees.{Quadrant, Square, Within, quadrant, Tree, none, box, pick, Shows, Ordered, In, Apart, Lone, numbers}

pub record Window : Type 0 where
  pub top : ℕ
  pub left : ℕ
  pub bottom : ℕ
  pub right : ℕ

pub record Sees (w : Window) (row col : ℕ) : Type 0 where
  pub not_above : w.top ≤ row
  pub not_below : row ≤ w.bottom
  pub not_left : w.left ≤ col
  pub not_right : col ≤ w.right

pub record Touches (s : Square) (w : Window) : Type 0 where
  pub row : ℕ
  pub col : ℕ
  pub within : Within s row col
  pub seen : Sees w row col

pub record Seen (t : Tree) (w : Window) (x : Spot) : Type 0 where
  pub shown : Shows t x
  pub seen : Sees w x.row x.col

abbrev pub Falls : Kind → List Spot → Type 0
Falls k [] = Unit {0}
Falls k (x ∷ []) = Unit {0}
Falls k (x ∷ y ∷ l) = Outranks k x y × Falls k (y ∷ l)

abbrev pub LastOver : Kind → List Spot → Spot → Type 0
LastOver k [] m = ⊥
LastOver k (x ∷ []) m = Outranks k x m
LastOver k (x ∷ y ∷ l) m = LastOver k (y ∷ l) m

pub record Best (k : Kind) (P : Spot → Type 0) (n : ℕ) (l : List Spot) : Type 0 where
  pub listed : (x : Spot) → In l x → P x
  pub falls : Falls k l
  pub left_out : (x : Spot) → P x → (In l x → ⊥) → LastOver k l x
  pub few : length l < n → (x : Spot) → P x → In l x
  pub most : length l ≤ n

pub data Part (s : Square) (t : Tree) : Square → Tree → Type 0 where
  whole : Part s t s t
  deeper : {r : Square} {i : ℕ} {m : Spot} {a b c d : Tree} → Part s t r (box i m a b c d) → (q : Quadrant) → Part s t (quadrant q r) (pick a b c d q)

-- u, in the square r, is no box, or is of the set, or does not touch the window, or need not be looked into:
-- as many marks as asked for are listed, and the last outranks its mark
abbrev pub Settled : Kind → Window → ℕ → List Spot → List ℕ → Square → Tree → Type 0
Settled k w n l S r none = Unit {0}
Settled k w n l S r (box i m a b c d) = (In S i → ⊥) → Touches r w → (length l < n → ⊥) × LastOver k l m

pub record Justifies (k : Kind) (s : Square) (t : Tree) (w : Window) (n : ℕ) (l : List Spot) (S : List ℕ) : Type 0 where
  pub root : Settled k w n l S s t
  pub under : {r : Square} {i : ℕ} {m : Spot} {a b c d : Tree} → Part s t r (box i m a b c d) → In S i → (q : Quadrant) → Settled k w n l S (quadrant q r) (pick a b c d q)

abbrev pub cell : Spot → ℕ × ℕ
cell m = (m.row, m.col)

--   best       the list has the best marks of the window
--   cells      no cell stands in it twice
--   set        some boxes of the tree, by their numbers, each once
--   enough     are reason enough for the list
--   size       and as many as the count
--   least      and no set that is reason enough has fewer
pub record Draws (k : Kind) (s : Square) (t : Tree) (w : Window) (n : ℕ) (l : List Spot) (opened : ℕ) : Type 0 where
  pub best : Best k (Seen t w) n l
  pub cells : Apart (map cell l)
  pub set : List ℕ
  pub of_tree : (i : ℕ) → In set i → In (numbers t) i
  pub once : Apart set
  pub enough : Justifies k s t w n l set
  pub size : length set ≡ opened
  pub least : (S : List ℕ) → Justifies k s t w n l S → opened ≤ length S

-- the window is turned round
abbrev pub turned : Window → Bool
turned w = nat_lt w.bottom w.top || nat_lt w.right w.left

-- of a draw of a window from a tree with the ceiling, with a list of so many places and a queue of so many
abbrev pub draw_refusal : Window → (places queue ceiling : ℕ) → Option ℕ
draw_refusal w places queue ceiling =
    first (
    record { number = 19; fits = turned w }
    ∷ record { number = 20; fits = (places == 0) }
    ∷ record { number = 21; fits = nat_lt queue ceiling }
    ∷ []
    )

-- the answer to a draw is one: it goes by the marks, and not by how the boxes are numbered
abbrev pub OneDraw : Type 0
OneDraw =
    (k : Kind)
    → Laws k
    → (s : Square) (t u : Tree)
    → Ordered k s t
    → Ordered k s u
    → Apart (numbers t)
    → Apart (numbers u)
    → ((x : Spot) → Shows t x → Shows u x)
    → ((x : Spot) → Shows u x → Shows t x)
    → (w : Window) (n : ℕ)
    → 0 < n
    → (l r : List Spot) (o p : ℕ)
    → Draws k s t w n l o
    → Draws k s u w n r p
    → (l ≡ r) × (o ≡ p)

-- each draw has an answer
abbrev pub SomeDraw : Type 0
SomeDraw =
    (k : Kind)
    → Laws k
    → (s : Square) (t : Tree)
    → Ordered k s t
    → Lone t
    → Apart (numbers t)
    → (w : Window) (n : ℕ)
    → 0 < n
    → (l : List Spot) × (o : ℕ) × Draws k s t w n l o
