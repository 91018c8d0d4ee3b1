-- The ledger of a plan: for each cell a grade or none. Fed the side, the number of places and the calls alone, it says
-- what each call on the plan is answered, and which marks the plan has afterwards.
--
--   Ledger            the level of the square, whose side is 2 ^ level, the number of places, and the grade of each cell
--   Call, Answer      what is asked of a plan, and what it answers; a refusal is known by its number
--   open_refusal h n  the number of the refusal to open a plan of level h over n places, or none
--   refusal l c       the number of the first refusal that fits the call and the ledger, or none
--   answer l c        what the call is answered
--   next l c          the ledger after the call
--   answers, after    the same of a run of calls, one after another
--   entries l         the marks of the ledger, row by row
use Rattle.std.specs.Prelude.{ℕ, zero, suc, ◌^◌, Bool, cond, not, ◌&&◌, ◌||◌, List, [], ◌∷◌, ◌++◌, length, is_some, Some, None, Option, ◌==◌, nat_le, nat_lt}
use Rattle.treap.specs.Refusals.{first}
use Rattle.treap.specs.Spots.{Spot}

pub record Ledger : Type 0 where
  pub level : ℕ
  pub places : ℕ
  pub grade : ℕ → ℕ → Option ℕ

-- no mark yet
abbrev pub blank : ℕ → ℕ → Ledger
blank level places = record { level = level; places = places; grade = λ row col. None }

pub data Call : Type 0 where
  enter : (m : Spot) → Call
  regrade : (m : Spot) → Call
  strike : (row col : ℕ) → Call
  look : (row col : ℕ) → Call

pub data Answer : Type 0 where
  done : Answer
  graded : (grade : ℕ) → Answer
  vacant : Answer
  refused : (number : ℕ) → Answer

-- the mark of a cell, as a list of one or none
abbrev pub entry : ℕ → ℕ → Option ℕ → List Spot
entry row col None = []
entry row col (Some g) = record { row = row; col = col; grade = g } ∷ []

-- the marks of a row in its first n columns
abbrev pub row_entries : (ℕ → ℕ → Option ℕ) → ℕ → ℕ → List Spot
row_entries grade row zero = []
row_entries grade row (suc n) = row_entries grade row n ++ entry row n (grade row n)

-- the marks of the first n rows in the first w columns
abbrev pub rows_entries : (ℕ → ℕ → Option ℕ) → ℕ → ℕ → List Spot
rows_entries grade w zero = []
rows_entries grade w (suc n) = rows_entries grade w n ++ row_entries grade n w

abbrev pub entries : Ledger → List Spot
entries l = rows_entries l.grade (2 ^ l.level) (2 ^ l.level)

-- the cell lies off the plan; it has a mark; there are as many marks as places
abbrev pub off : Ledger → ℕ → ℕ → Bool
off l row col = not (nat_lt row (2 ^ l.level) && nat_lt col (2 ^ l.level))

abbrev pub taken : Ledger → ℕ → ℕ → Bool
taken l row col = is_some (l.grade row col)

abbrev pub full : Ledger → Bool
full l = nat_le l.places (length (entries l))

abbrev pub open_refusal : ℕ → ℕ → Option ℕ
open_refusal level places =
    first (
    record { number = 1; fits = nat_lt 10 level }
    ∷ record { number = 2; fits = places == 0 || nat_lt 65535 places }
    ∷ []
    )

abbrev pub refusal : Ledger → Call → Option ℕ
refusal l (enter m) =
    first (
    record { number = 4; fits = off l m.row m.col }
    ∷ record { number = 5; fits = taken l m.row m.col }
    ∷ record { number = 7; fits = full l }
    ∷ []
    )
refusal l (regrade m) =
    first (
    record { number = 4; fits = off l m.row m.col }
    ∷ record { number = 6; fits = not (taken l m.row m.col) }
    ∷ []
    )
refusal l (strike row col) =
    first (
    record { number = 4; fits = off l row col }
    ∷ record { number = 6; fits = not (taken l row col) }
    ∷ []
    )
refusal l (look row col) = first (record { number = 4; fits = off l row col } ∷ [])

abbrev pub graded_or_vacant : Option ℕ → Answer
graded_or_vacant (Some g) = graded g
graded_or_vacant None = vacant

-- what a call that is not refused is answered
abbrev pub accepted : Ledger → Call → Answer
accepted l (enter m) = done
accepted l (regrade m) = done
accepted l (strike row col) = graded_or_vacant (l.grade row col)
accepted l (look row col) = graded_or_vacant (l.grade row col)

-- the ledger with another grade, or none, in one cell
abbrev pub set_cell : ℕ → ℕ → Option ℕ → Ledger → Ledger
set_cell row col o l =
    record {
      level = l.level;
      places = l.places;
      grade = λ r c. cond (r == row && c == col) o (l.grade r c);
    }

-- the ledger after a call that is not refused
abbrev pub changed : Ledger → Call → Ledger
changed l (enter m) = set_cell m.row m.col (Some m.grade) l
changed l (regrade m) = set_cell m.row m.col (Some m.grade) l
changed l (strike row col) = set_cell row col None l
changed l (look row col) = l

abbrev pub answer_as : Ledger → Call → Option ℕ → Answer
answer_as l c None = accepted l c
answer_as l c (Some n) = refused n

abbrev pub answer : Ledger → Call → Answer
answer l c = answer_as l c (refusal l c)

abbrev pub next_as : Ledger → Call → Option ℕ → Ledger
next_as l c None = changed l c
next_as l c (Some n) = l

abbrev pub next : Ledger → Call → Ledger
next l c = next_as l c (refusal l c)

-- a run of calls
abbrev pub after : Ledger → List Call → Ledger
after l [] = l
after l (c ∷ calls) = after (next l c) calls

abbrev pub answers : Ledger → List Call → List Answer
answers l [] = []
answers l (c ∷ calls) = answer l c ∷ answers (next l c) calls
