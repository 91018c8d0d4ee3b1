-- The refusals of a line, each with its number. A refusal is answered by its number alone.
--
--   refusal_number u      the number of the refusal u
use Rattle.std.specs.Prelude.{ℕ}
use Rattle.book.specs.declared.command.Unusable.{Unusable}

abbrev pub refusal_number : Unusable → ℕ
refusal_number u = 24
