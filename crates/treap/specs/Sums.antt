-- Sums over the boxes of a tree, by which a bag of marks or of box numbers is known: two trees hold the same marks, each as
-- often, where every sum over their marks is the same.
--
--   one_if b             1 if b holds, else 0
--   mark_sum f t         the sum of f over the marks of t
--   number_sum f t       the sum of f over the box numbers of t
--   in_cell row col t    how many boxes of t hold a mark in the cell
--   held n t             how many boxes of t have the number n
--   Alone t              no cell has two marks
--   grade_in row col t   the grade of the mark of t in the cell, or none
use Rattle.std.specs.Prelude.{ℕ, ◌+◌, ◌≤◌, Bool, true, false, cond, ◌&&◌, Some, None, Option, ◌==◌}
use Rattle.treap.specs.Spots.{Spot}
use Rattle.treap.specs.Trees.{Tree, none, box}
use Rattle.treap.specs.Ledgers.{Ledger}

abbrev pub one_if : Bool → ℕ
one_if true = 1
one_if false = 0

abbrev pub mark_sum : (Spot → ℕ) → Tree → ℕ
mark_sum f none = 0
mark_sum f (box n m a b c d) = f m + mark_sum f a + mark_sum f b + mark_sum f c + mark_sum f d

abbrev pub number_sum : (ℕ → ℕ) → Tree → ℕ
number_sum f none = 0
number_sum f (box n m a b c d) = f n + number_sum f a + number_sum f b + number_sum f c + number_sum f d

-- the mark stands in the cell
abbrev pub at_cell : ℕ → ℕ → Spot → Bool
at_cell row col m = row == m.row && col == m.col

abbrev pub in_cell : ℕ → ℕ → Tree → ℕ
in_cell row col t = mark_sum (λ m. one_if (at_cell row col m)) t

abbrev pub held : ℕ → Tree → ℕ
held n t = number_sum (λ i. one_if (n == i)) t

abbrev pub Alone : Tree → Type 0
Alone t = (row col : ℕ) → in_cell row col t ≤ 1

-- the first of two that is there
abbrev pub either : Option ℕ → Option ℕ → Option ℕ
either None o = o
either (Some g) o = Some g

abbrev pub grade_in : ℕ → ℕ → Tree → Option ℕ
grade_in row col none = None
grade_in row col (box n m a b c d) =
    cond (at_cell row col m) (Some m.grade)
    (either (grade_in row col a) (either (grade_in row col b) (either (grade_in row col c) (grade_in row col d))))

-- the ledger of a plan with this tree
abbrev pub ledger_of : ℕ → ℕ → Tree → Ledger
ledger_of level places t = record { level = level; places = places; grade = λ row col. grade_in row col t }
