-- What a line says: the grammar of a line, as a relation between its bytes and a command. A line is a
-- letter and then its fields, each of them one space and a number.
--
--   Digit b               the byte b is a decimal digit
--   NoDigit text          text does not begin with a digit
--   value digits          the number that decimal digits write
--   Numeral digits n      digits write the number n as a line may: one to five digits, zeros in front
--                         allowed, and n at most 65,535
--   Field text n rest     text is a space, a numeral of n, and rest, which does not begin with a digit
--   Fields text ns        text is a field for each number of ns, in their order, and nothing else
--   listed n ns           the first n of the numbers ns, one by one
--   letter c              the letter that a line of the command c begins with
--   numbers c             the numbers that follow it, in the order of the line
--   Allowed c             the numbers of c are not past what the command takes
--   Says line c           line is the text of the command c
--   OneCommand            no line says two commands
use Rattle.std.specs.Prelude.{◌≡◌, ℕ, ◌+◌, ◌-◌, ◌*◌, ◌≤◌, List, [], ◌∷◌, ◌++◌, map, length, fold, slice_index, All}
use Rattle.std.specs.List.{range_with_len}
use Rattle.book.specs.declared.command.Command.{Command}
use Rattle.book.specs.declared.command.Command.TheVariants.{New, Enter, Regrade, Strike, Look, Draw}

abbrev pub Digit : ℕ → Type 0
Digit b = (48 ≤ b) × (b ≤ 57)  -- 0 to 9

abbrev pub NoDigit : List ℕ → Type 0
NoDigit [] = Unit {0}
NoDigit (b ∷ rest) = Digit b → ⊥

abbrev pub value : List ℕ → ℕ
value digits = fold (λ n b. 10 * n + (b - 48)) 0 digits

pub record Numeral (digits : List ℕ) (n : ℕ) : Type 0 where
  pub some : 1 ≤ length digits
  pub few : length digits ≤ 5
  pub decimal : All Digit digits
  pub means : value digits ≡ n
  pub small : n ≤ 65535

pub record Field (text : List ℕ) (n : ℕ) (rest : List ℕ) : Type 0 where
  pub digits : List ℕ
  pub parts : text ≡ 32 ∷ (digits ++ rest)  -- 32 is a space
  pub numeral : Numeral digits n
  pub whole : NoDigit rest

abbrev pub Fields : List ℕ → List ℕ → Type 0
Fields text [] = text ≡ []
Fields text (n ∷ ns) = (rest : List ℕ) × Field text n rest × Fields rest ns

abbrev pub listed : ℕ → List ℕ → List ℕ
listed n ns = map (λ i. slice_index ns i) (range_with_len 0 n)

abbrev pub letter : Command → ℕ
letter (New h) = 78  -- N
letter (Enter row col grade) = 69  -- E
letter (Regrade row col grade) = 71  -- G
letter (Strike row col) = 83  -- S
letter (Look row col) = 76  -- L
letter (Draw top left bottom right k) = 68  -- D

abbrev pub numbers : Command → List ℕ
numbers (New h) = h ∷ []
numbers (Enter row col grade) = row ∷ (col ∷ (grade ∷ []))
numbers (Regrade row col grade) = row ∷ (col ∷ (grade ∷ []))
numbers (Strike row col) = row ∷ (col ∷ [])
numbers (Look row col) = row ∷ (col ∷ [])
numbers (Draw top left bottom right k) = top ∷ (left ∷ (bottom ∷ (right ∷ (k ∷ []))))

abbrev pub Allowed : Command → Type 0
Allowed (New h) = Unit {0}
Allowed (Enter row col grade) = Unit {0}
Allowed (Regrade row col grade) = Unit {0}
Allowed (Strike row col) = Unit {0}
Allowed (Look row col) = Unit {0}
Allowed (Draw top left bottom right k) = k ≤ 256

abbrev pub Says : List ℕ → Command → Type 0
Says [] c = ⊥
Says (b ∷ rest) c = (b ≡ letter c) × Fields rest (numbers c) × Allowed c

abbrev pub OneCommand : Type 0
OneCommand = (line : List ℕ) (c d : Command) → Says line c → Says line d → c ≡ d
