-- The lines of a text. A line goes up to a byte 10 or to the end of the text, and a byte 10 at the end
-- of the text starts no line, so that an empty text has none.
--
--   newline               the byte 10
--   FirstLine text line rest
--                         text is not empty, its first line is line, and rest is the text after that
--                         line and the byte 10 that ends it
--   Lines text ls         ls are the lines of text, in their order
--   OneSplit              no text has two lists of lines
use Rattle.std.specs.Prelude.{◌≡◌, ℕ, ◌≢◌, ◌⊎◌, List, [], ◌∷◌, ◌++◌, All}

abbrev pub newline : ℕ
newline = 10

pub record FirstLine (text line rest : List ℕ) : Type 0 where
  pub some : text ≢ []
  pub unbroken : All (λ b. b ≢ newline) line
  pub parts : (text ≡ line ++ (newline ∷ rest)) ⊎ ((text ≡ line) × (rest ≡ []))

abbrev pub Lines : List ℕ → List (List ℕ) → Type 0
Lines text [] = text ≡ []
Lines text (line ∷ ls) = (rest : List ℕ) × FirstLine text line rest × Lines rest ls

abbrev pub OneSplit : Type 0
OneSplit = (text : List ℕ) (ls ms : List (List ℕ)) → Lines text ls → Lines text ms → ls ≡ ms
