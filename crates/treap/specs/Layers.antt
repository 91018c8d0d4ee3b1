-- Floors and shifts. A floor leaves the boxes whose grade stands above or level with its own; a box's mark outranks all below
-- it, so where a box falls away all below it does. A shift moves every square and mark.
--
--   floor k g t            the tree under a floor at the grade g
--   moved down right t     the tree moved by so many rows and columns; likewise a mark and a square
--   floored, shifted       the same of what a box tree shows; its ceiling stays
--   shift_refusal          the number of the refusal of a shift, or none
use Rattle.std.specs.Prelude.{◌≡◌, ℕ, ◌+◌, ◌^◌, Bool, true, false, ◌||◌, [], ◌∷◌, Option, nat_lt}
use Rattle.grade.specs.Kind.{Kind, Laws}
use Rattle.treap.specs.Refusals.{first}
use Rattle.treap.specs.Spots.{Spot}
use Rattle.treap.specs.Trees.{Square, Tree, none, box, Shows, Ordered, Apart, numbers, Meaning}

-- the tree, or no box
abbrev pub kept : Bool → Tree → Tree
kept true t = t
kept false t = none

abbrev pub floor : Kind → ℕ → Tree → Tree
floor k g none = none
floor k g (box i m a b c d) = kept (k.above m.grade g) (box i m (floor k g a) (floor k g b) (floor k g c) (floor k g d))

-- a floor over an ordered tree is ordered, shows exactly the marks whose grade stands above or level with its own, and keeps
-- numbers apart
abbrev pub FloorShows : Type 0
FloorShows =
    (k : Kind)
    → Laws k
    → (g : ℕ)
    → (s : Square) (t : Tree)
    → Ordered k s t
    → Ordered k s (floor k g t)
    × ((x : Spot) → Shows (floor k g t) x → Shows t x × (k.above x.grade g ≡ true))
    × ((x : Spot) → Shows t x → (k.above x.grade g ≡ true) → Shows (floor k g t) x)
    × (Apart (numbers t) → Apart (numbers (floor k g t)))

abbrev pub moved_spot : ℕ → ℕ → Spot → Spot
moved_spot down right m = record { row = m.row + down; col = m.col + right; grade = m.grade }

abbrev pub moved_square : ℕ → ℕ → Square → Square
moved_square down right s = record { level = s.level; top = s.top + down; left = s.left + right }

abbrev pub moved : ℕ → ℕ → Tree → Tree
moved down right none = none
moved down right (box i m a b c d) = box i (moved_spot down right m) (moved down right a) (moved down right b) (moved down right c) (moved down right d)

-- an ordered tree moved is ordered, shows exactly the marks moved, and keeps the numbers of its boxes
abbrev pub ShiftShows : Type 0
ShiftShows =
    (k : Kind) (down right : ℕ) (s : Square) (t : Tree)
    → Ordered k s t
    → Ordered k (moved_square down right s) (moved down right t)
    × ((x : Spot) → Shows t x → Shows (moved down right t) (moved_spot down right x))
    × ((x : Spot) → Shows (moved down right t) x → (y : Spot) × Shows t y × (x ≡ moved_spot down right y))
    × (numbers (moved down right t) ≡ numbers t)

abbrev pub floored : Kind → ℕ → Meaning → Meaning
floored k g m = record { square = m.square; ceiling = m.ceiling; tree = floor k g m.tree }

abbrev pub shifted : ℕ → ℕ → Meaning → Meaning
shifted down right m = record { square = moved_square down right m.square; ceiling = m.ceiling; tree = moved down right m.tree }

-- a row or a column of the square, moved so far, would pass 65535
abbrev pub past_edge : ℕ → ℕ → Square → Bool
past_edge down right s = nat_lt 65536 ((s.top + down) + 2 ^ s.level) || nat_lt 65536 ((s.left + right) + 2 ^ s.level)

abbrev pub shift_refusal : ℕ → ℕ → Meaning → Option ℕ
shift_refusal down right m = first (record { number = 18; fits = past_edge down right m.square } ∷ [])
