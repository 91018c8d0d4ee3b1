-- Heaps: entries in the places 0, 1, 2 and on of a list, of which 2k + 1 and 2k + 2 are the places below place k.
--
--   up k            the place above place k
--   Heap xs n       none of the first n outranks the entry above it
--   Over xs j n     none of the first n that is right below place j outranks the entry above j
--   Rising xs j n   the first n are a heap, but that the entry at j may outrank the one above it
--   Sinking xs j n  the first n are a heap, but that those right below place j may outrank the entry at j
--   Best xs j c n   none of the first n that is right below place j outranks the entry at c
use Rattle.std.specs.Prelude.{◌≡◌, ℕ, ◌-◌, ◌/◌, ◌<◌, Bool, false, List, ◌≢◌, slice_index_or}

abbrev pub up : ℕ → ℕ
up k = (k - 1) / 2

module _ {E : Type 0} (over : E → E → Bool) where
  abbrev pub Heap : List E → ℕ → Type 0
  Heap xs n = (k : ℕ) (d : E) → 0 < k → k < n → over (slice_index_or xs k d) (slice_index_or xs (up k) d) ≡ false

  abbrev pub Over : List E → ℕ → ℕ → Type 0
  Over xs j n = (k : ℕ) (d : E) → 0 < j → 0 < k → k < n → up k ≡ j → over (slice_index_or xs k d) (slice_index_or xs (up j) d) ≡ false

  abbrev pub Rising : List E → ℕ → ℕ → Type 0
  Rising xs j n =
      ((k : ℕ) (d : E) → 0 < k → k < n → (k ≢ j) → over (slice_index_or xs k d) (slice_index_or xs (up k) d) ≡ false) × Over xs j n

  abbrev pub Sinking : List E → ℕ → ℕ → Type 0
  Sinking xs j n =
      ((k : ℕ) (d : E) → 0 < k → k < n → (up k ≢ j) → over (slice_index_or xs k d) (slice_index_or xs (up k) d) ≡ false) × Over xs j n

  abbrev pub Best : List E → ℕ → ℕ → ℕ → Type 0
  Best xs j c n = (k : ℕ) (d : E) → 0 < k → k < n → up k ≡ j → over (slice_index_or xs k d) (slice_index_or xs c d) ≡ false
