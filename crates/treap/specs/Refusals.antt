-- Refusals by number: those of a call stand in their order, and the call is refused by the first that fits.
--
--   Check      a refusal: its number, and whether it fits
--   first l    the number of the first refusal that fits, or none
use Rattle.std.specs.Prelude.{ℕ, Bool, cond, List, [], ◌∷◌, Some, None, Option}

pub record Check : Type 0 where
  pub number : ℕ
  pub fits : Bool

abbrev pub first : List Check → Option ℕ
first [] = None
first (c ∷ rest) = cond c.fits (Some c.number) (first rest)
