-- What making a monument answers: its code, or the number of the refusal.
use Rattle.std.specs.Prelude.{ℕ, cond, Ok, Err, Result}
use Rattle.grade.specs.Kinds.{monument_range, monument_code, read_code}
use Rattle.grade.specs.declared.monument.Monument.{Monument}
use Rattle.grade.specs.declared.monument.BadGrade.{BadGrade}

-- the number of the refusal of a class or a year out of range
abbrev pub bad_grade_number : BadGrade → ℕ
bad_grade_number e = 3

-- an answer by the monument's code and the refusal's number
abbrev pub made_as : Result Monument BadGrade → Result ℕ ℕ
made_as (Ok m) = Ok (read_code m.v)
made_as (Err e) = Err (bad_grade_number e)

-- what is answered to a class and a year
abbrev pub monument_made : ℕ → ℕ → Result ℕ ℕ
monument_made class year = cond (monument_range class year) (Ok (monument_code class year)) (Err 3)
