-- What a caller knows of a queue.
--
--   Waiting E           the entries that a queue holds, and what stands in its spare slots
--   room q              how many slots there are
--   Unfilled q          some slot is spare
--   Pushed e r q q'     what q' holds after a push of e on q that answers r
--   Fewer r n m         a pop that answers r goes from n entries to m
--   Popped over r q q'  what q' holds after a pop from q that answers r, and which entry r is
use Rattle.std.specs.Prelude.{◌≡◌, ℕ, ◌+◌, ◌<◌, Bool, List, [], ◌∷◌, length, Some, None, Option, Ok, Err, Result}
use Rattle.std.specs.List.Sorted.{IsPermutation}
use Rattle.queue.specs.Ranks.{Top}

pub record Waiting (E : Type 0) : Type 0 where
  -- the entries that it holds, in no order that a caller knows
  pub held : List E
  -- what stands in the slots beyond those
  pub spare : List E

module _ {E : Type 0} where
  abbrev pub room : Waiting E → ℕ
  room q = length q.held + length q.spare

  abbrev pub Unfilled : Waiting E → Type 0
  Unfilled q = length q.held < room q

  abbrev pub Pushed : E → Result (Unit {0}) E → Waiting E → Waiting E → Type 0
  Pushed e (Ok _) q q' = IsPermutation (e ∷ q.held) q'.held
  Pushed e (Err _) q q' = q'.held ≡ q.held

  abbrev pub Fewer : Option E → ℕ → ℕ → Type 0
  Fewer None n m = n ≡ 0
  Fewer (Some e) n m = m + 1 ≡ n

  abbrev pub Popped : (E → E → Bool) → Option E → Waiting E → Waiting E → Type 0
  Popped over None q q' = (q.held ≡ []) × (q'.held ≡ [])
  Popped over (Some e) q q' = Top over e q.held × IsPermutation q.held (e ∷ q'.held)
