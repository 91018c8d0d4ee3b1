-- What the definitions give for a small plan and for some monuments. The plan has points as grades, the level 2, five places,
-- and five marks, by row, column and grade: (0, 0) 5, (0, 3) 9, (1, 1) 5, (2, 1) 7, (3, 3) 1.
--
--   trial_marks      the five marks
--   trial_tree       the box tree of these marks
--   trial_boxes      the same tree with its boxes numbered in level order
--   trial_ledger     the ledger of the plan after they are entered
--   tree_of l        the box tree of the marks of a ledger of points
--   window t l b r   the rows from t to b and the columns from l to r
--   TrialDraws       the examples of draws
--   Worked           the other examples
use Rattle.std.specs.Prelude.{◌≡◌, ℕ, List, [], ◌∷◌, map, Some, None}
use Rattle.grade.specs.Kinds.{points, monument, monument_code}
use Rattle.treap.specs.Spots.{Spot}
use Rattle.treap.specs.Trees.{Tree, none, box, unnumbered}
use Rattle.treap.specs.Plants.{plant}
use Rattle.treap.specs.Entries.{plan_square}
use Rattle.treap.specs.Levels.{level_order, marks_of}
use Rattle.treap.specs.Draws.{Window, Draws}
use Rattle.treap.specs.Ledgers.{Ledger, blank, enter, strike, done, graded, refused, answer, next, after, answers, entries}

abbrev pub mark : ℕ → ℕ → ℕ → Spot
mark row col grade = record { row = row; col = col; grade = grade }

abbrev pub trial_marks : List Spot
trial_marks = mark 0 0 5 ∷ mark 0 3 9 ∷ mark 1 1 5 ∷ mark 2 1 7 ∷ mark 3 3 1 ∷ []

abbrev pub trial_tree : Tree
trial_tree = plant points (plan_square 2) trial_marks

abbrev pub trial_boxes : Tree
trial_boxes =
    box 0 (mark 0 3 9)
    (box 1 (mark 0 0 5) none none none (box 4 (mark 1 1 5) none none none none))
    none
    (box 2 (mark 2 1 7) none none none none)
    (box 3 (mark 3 3 1) none none none none)

abbrev pub trial_ledger : Ledger
trial_ledger = after (blank 2 5) (map enter trial_marks)

abbrev pub tree_of : Ledger → Tree
tree_of l = plant points (plan_square l.level) (entries l)

abbrev pub window : (top left bottom right : ℕ) → Window
window top left bottom right = record { top = top; left = left; bottom = bottom; right = right }

--   in_level_order    the marks of the boxes in level order; the root holds the grade 9
--   entered           each of the five marks is entered
--   listed            the ledger then has these marks
--   planted           and the same tree
--   struck            to strike a mark is answered by its grade
--   then_ordered      the boxes of the plan without that mark; the root holds the grade 7
--   off_plan          refused: a cell off the plan
--   taken             refused: a mark in a cell that has one
--   vacant            refused: to strike in a cell that has none
--   full              refused: a sixth mark, for want of a place
pub record TrialPlan : Type 0 where
  pub in_level_order :
      marks_of (level_order 2 trial_tree) ≡ mark 0 3 9 ∷ mark 0 0 5 ∷ mark 2 1 7 ∷ mark 3 3 1 ∷ mark 1 1 5 ∷ []
  pub entered : answers (blank 2 5) (map enter trial_marks) ≡ done ∷ done ∷ done ∷ done ∷ done ∷ []
  pub listed : entries trial_ledger ≡ trial_marks
  pub planted : tree_of trial_ledger ≡ trial_tree
  pub struck : answer trial_ledger (strike 0 3) ≡ graded 9
  pub then_ordered :
      marks_of (level_order 2 (tree_of (next trial_ledger (strike 0 3)))) ≡ mark 2 1 7 ∷ mark 0 0 5 ∷ mark 3 3 1 ∷ mark 1 1 5 ∷ []
  pub off_plan : answer trial_ledger (enter (mark 4 0 1)) ≡ refused 4
  pub taken : answer trial_ledger (enter (mark 1 1 8)) ≡ refused 5
  pub vacant : answer trial_ledger (strike 2 2) ≡ refused 6
  pub full : answer trial_ledger (enter (mark 2 2 3)) ≡ refused 7

--   numbered      the tree with numbers is the trial tree, but for the numbers
--   two           the two best marks of the plan; two boxes are opened
--   three         the three best, of the two with the grade 5 the one that comes first; three boxes are opened
--   window_one    the best mark of row 1, columns 1 and 2; of the three boxes opened two have their marks outside the window
--   window_two    two marks asked for there: the one there is, and as many boxes
pub record TrialDraws : Type 0 where
  pub numbered : unnumbered trial_boxes ≡ trial_tree
  pub two : Draws points (plan_square 2) trial_boxes (window 0 0 3 3) 2 (mark 0 3 9 ∷ mark 2 1 7 ∷ []) 2
  pub three :
      Draws points (plan_square 2) trial_boxes (window 0 0 3 3) 3 (mark 0 3 9 ∷ mark 2 1 7 ∷ mark 0 0 5 ∷ []) 3
  pub window_one : Draws points (plan_square 2) trial_boxes (window 1 1 1 2) 1 (mark 1 1 5 ∷ []) 3
  pub window_two : Draws points (plan_square 2) trial_boxes (window 1 1 1 2) 2 (mark 1 1 5 ∷ []) 3

-- two monuments, of class 1 and the year 1990 and of class 2 and the year 2004: their codes, the step from the first to the
-- second, and what the steps 816, 290 and 291 lead to from the first
pub record TrialMonuments : Type 0 where
  pub first : monument_code 1 1990 ≡ 802
  pub second : monument_code 2 2004 ≡ 1328
  pub step : monument.step 802 1328 ≡ Some 816
  pub to_second : monument.back 802 816 ≡ Some 1328
  pub to_itself : monument.back 802 290 ≡ Some 802
  pub to_none : monument.back 802 291 ≡ None

pub record Worked : Type 0 where
  pub plan : TrialPlan
  pub monuments : TrialMonuments
