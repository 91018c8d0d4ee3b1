-- Tallies of draws, and what noting a draw does to one.
--
--   blank              the tally of no draws
--   full_number e      the number of the refusal
--   numbered r         none, or the number of the refusal
--   note_refusal t n   the number of the refusal to note a draw that opened n boxes, or none
--   noted t n          the tally after that
use Rattle.std.specs.Prelude.{ℕ, ◌+◌, cond, ◌||◌, [], ◌∷◌, is_some, Some, None, Ok, Err, Option, Result, nat_lt}
use Rattle.treap.specs.Refusals.{first}
use Rattle.tally.specs.declared.tally.Tally.{Tally}
use Rattle.tally.specs.declared.tally.TallyFull.{TallyFull}

abbrev pub blank : Tally
blank = record { draws = 0; opened = 0 }

abbrev pub full_number : TallyFull → ℕ
full_number e = 23

abbrev pub numbered : Result (Unit {0}) TallyFull → Option ℕ
numbered (Ok u) = None
numbered (Err e) = Some (full_number e)

abbrev pub note_refusal : Tally → ℕ → Option ℕ
note_refusal t n =
    first (record { number = 23; fits = nat_lt 4294967295 (t.draws + 1) || nat_lt 4294967295 (t.opened + n) } ∷ [])

abbrev pub noted : Tally → ℕ → Tally
noted t n = cond (is_some (note_refusal t n)) t (record { draws = t.draws + 1; opened = t.opened + n })
