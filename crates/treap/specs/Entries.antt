-- A lawful tree without two marks in a cell and its ledger tell each other: the ledger has the marks that the tree shows, and
-- the tree is the one worked out from the marks of the ledger. So two such trees with equal ledgers differ in box numbers only.
--
--   plan_square h         the square of a plan of the level h, whose first cell is (0, 0)
--   Recorded k s t l      the ledger l has the marks of the tree t of the square s
use Rattle.std.specs.Prelude.{◌≡◌, ℕ, length, Some}
use Rattle.grade.specs.Kind.{Kind, Laws}
use Rattle.treap.specs.Spots.{Spot}
use Rattle.treap.specs.Trees.{Square, Tree, Shows, Ordered, In, count, unnumbered}
use Rattle.treap.specs.Ledgers.{Ledger, entries}
use Rattle.treap.specs.Sums.{Alone, grade_in, ledger_of}
use Rattle.treap.specs.Plants.{plant}

abbrev pub plan_square : ℕ → Square
plan_square level = record { level = level; top = 0; left = 0 }

--   graded     the cell of a mark of the tree has the mark's grade
--   marked     a grade in a cell is that of a mark of the tree
--   shown      each mark of the ledger is in the tree
--   listed     each mark of the tree is in the ledger
--   counted    there are as many marks as boxes
--   planted    the tree is the one worked out from the marks, up to the numbers of the boxes
pub record Recorded (k : Kind) (s : Square) (t : Tree) (l : Ledger) : Type 0 where
  pub graded : (x : Spot) → Shows t x → l.grade x.row x.col ≡ Some x.grade
  pub marked : (row col g : ℕ) → l.grade row col ≡ Some g → Shows t (record { row = row; col = col; grade = g })
  pub shown : (x : Spot) → In (entries l) x → Shows t x
  pub listed : (x : Spot) → Shows t x → In (entries l) x
  pub counted : length (entries l) ≡ count t
  pub planted : unnumbered t ≡ plant k s (entries l)

-- the ledger of a lawful tree has its marks
abbrev pub LedgerTree : Type 0
LedgerTree =
    (k : Kind)
    → Laws k
    → (level places : ℕ) (t : Tree)
    → Ordered k (plan_square level) t
    → Alone t
    → Recorded k (plan_square level) t (ledger_of level places t)

-- two lawful trees of one square have the same grade in every cell exactly if they differ in box numbers only
abbrev pub SameMarksSameTree : Type 0
SameMarksSameTree =
    (k : Kind)
    → Laws k
    → (s : Square) (t u : Tree)
    → Ordered k s t
    → Ordered k s u
    → Alone t
    → Alone u
    → (((row col : ℕ) → grade_in row col t ≡ grade_in row col u) → unnumbered t ≡ unnumbered u)
    × (unnumbered t ≡ unnumbered u → (row col : ℕ) → grade_in row col t ≡ grade_in row col u)
