-- One exchange brings an entry one place up or down a heap; none of a heap's entries outranks the first.
use Rattle.std.proofs.Common.{◌≡◌, ℕ, zero, suc, ◌<◌, ◌≤◌, Bool, true, false, List, get_or, arith}
use Rattle.std.specs.List.{SwappedAt}
use Rattle.queue.specs.Ranks.{Ranking}
use Rattle.queue.specs.Heaps.{up, Heap, Rising, Sinking, Best}

module _ {E : Type 0} {over : E → E → Bool} (laws : Ranking over) (xs : List E) where
  -- the entry at j changes places with the one above it, which it outranks
  pub rises : (ys : List E) (j n : ℕ) → 0 < j → j < n → ((d : E) → over (get_or xs j d) (get_or xs (up j) d) ≡ true) →
      SwappedAt xs ys j (up j) → Rising over xs j n → Rising over ys (up j) n
  rises ys j n pos in' more s h = (
    λ k d a b u. grind (
      arith,
      more d,
      s.0 d,
      s.1 d,
      s.2 k d,
      s.2 (up k) d,
      h.0 k d,
      h.1 k d,
      laws.one_way (get_or xs j d),
      laws.chain (get_or xs k d) (get_or xs (up j) d) (get_or xs j d),
    ),
    λ k d z a b u. grind (
      arith,
      s.0 d,
      s.2 k d,
      s.2 (up (up j)) d,
      h.0 k d,
      h.0 (up j) d,
      laws.chain (get_or xs k d) (get_or xs (up j) d) (get_or xs (up (up j)) d),
    ),
  )

  -- the entry at j changes places with the best below it, at c, which outranks it
  pub sinks : (ys : List E) (j c n : ℕ) → 0 < c → c < n → up c ≡ j → ((d : E) → over (get_or xs c d) (get_or xs j d) ≡ true) →
      SwappedAt xs ys c j → Best over xs j c n → Sinking over xs j n → Sinking over ys c n
  sinks ys j c n pos in' up-c more s best h = (
    λ k d a b u. grind (arith, more d, s.0 d, s.1 d, s.2 k d, s.2 (up k) d, best k d, h.0 k d, h.1 c d, laws.one_way (get_or xs c d)),
    λ k d z a b u. grind (arith, s.1 d, s.2 k d, h.0 k d),
  )

  itself : (x : E) → over x x ≡ false
  itself x = grind (arith, laws.one_way x x)

  -- by the way up from k, of at most `fuel` steps
  under : (n : ℕ) (d : E) → Heap over xs n → (fuel k : ℕ) → k ≤ fuel → k < n → over (get_or xs k d) (get_or xs 0 d) ≡ false
  under n d h zero k a b = grind (arith, itself)
  under n d h (suc fuel) k a b = grind (
    arith,
    itself,
    h k d,
    under n d h fuel (up k),
    laws.chain (get_or xs k d) (get_or xs (up k) d) (get_or xs 0 d),
  )

  pub top : (n k : ℕ) (d : E) → k < n → Heap over xs n → over (get_or xs k d) (get_or xs 0 d) ≡ false
  top n k d b h = under n d h k k (omega arith) b
