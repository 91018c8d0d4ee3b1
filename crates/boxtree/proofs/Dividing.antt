-- Levels and halves of squares on the grid.
use Rattle.std.proofs.Common.{ℕ, ◌≡◌, ◌+◌, ◌-◌, ◌*◌, ◌%◌, ◌^◌, ◌<◌, ◌≤◌, pred, ap, ◌∙◌, arith, pow_mono}
use Rattle.std.proofs.lemmas.Nat.{one_shl}
use native.Mathlib.Decide.{dec_le}

-- where no row or column is past 65,535, the level is 16 at most
pub at_most_16 : (l x : ℕ) → x + 2 ^ l ≤ 65536 → l ≤ 16
at_most_16 l x h = go (dec_le l 16)
  where
    go : Dec (l ≤ 16) → l ≤ 16
    go (yes p) = p
    go (no p) = let k : 17 ≤ l = omega arith in let q : 2 ^ 17 ≤ 2 ^ l = pow_mono k in absurd (omega arith)

-- the side of the quadrants fits 16 bits
pub half_is : (l x : ℕ) → 0 < l → x + 2 ^ l ≤ 65536 → (1 * 2 ^ (l - 1)) % 65536 ≡ 2 ^ pred l
half_is l x p h = let k = at_most_16 l x h in one_shl (l - 1) 16 (omega arith) ∙ ap (λ (m : ℕ). 2 ^ m) (omega arith)
