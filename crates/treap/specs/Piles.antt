-- Piles of floors and shifts. A pile is a list of layers, laid one over the other in its order. Whatever the order, it shows
-- what one floor under one shift shows.
--
--   Layer               a floor at a grade, or a shift by some rows and columns
--   lay k y m           what is shown through the layer of the meaning m
--   piled k p m         what is shown through the pile
--   pile_refusal k p m  the number of the refusal of the first shift of the pile that is refused where it is laid, or none
--   Sum                 what a pile comes to: its strictest floor, if it has one, and the rows and the columns of its shifts
--   stricter k o g      the stricter of a floor that may be absent and one at g
--   summed k p          what the pile p comes to
--   through k s m       what is shown of the meaning m through one floor, if the sum has one, and then one shift
use Rattle.std.specs.Prelude.{◌≡◌, ℕ, ◌+◌, ◌<◌, cond, List, [], ◌∷◌, Some, None, Option}
use Rattle.grade.specs.Kind.{Kind, Laws}
use Rattle.treap.specs.Spots.{Spot}
use Rattle.treap.specs.Trees.{Shows, Meaning, Lawful}
use Rattle.treap.specs.Sums.{either}
use Rattle.treap.specs.Draws.{Window, Draws}
use Rattle.treap.specs.Layers.{floored, shifted, shift_refusal}

pub data Layer : Type 0 where
  floor_at : (grade : ℕ) → Layer
  shift_by : (rows cols : ℕ) → Layer

abbrev pub lay : Kind → Layer → Meaning → Meaning
lay k (floor_at g) m = floored k g m
lay k (shift_by rows cols) m = shifted rows cols m

abbrev pub piled : Kind → List Layer → Meaning → Meaning
piled k [] m = m
piled k (y ∷ p) m = piled k p (lay k y m)

-- a floor is not refused
abbrev pub lay_refusal : Layer → Meaning → Option ℕ
lay_refusal (floor_at g) m = None
lay_refusal (shift_by rows cols) m = shift_refusal rows cols m

abbrev pub pile_refusal : Kind → List Layer → Meaning → Option ℕ
pile_refusal k [] m = None
pile_refusal k (y ∷ p) m = either (lay_refusal y m) (pile_refusal k p (lay k y m))

pub record Sum : Type 0 where
  pub least : Option ℕ
  pub rows : ℕ
  pub cols : ℕ

abbrev pub stricter : Kind → Option ℕ → ℕ → Option ℕ
stricter k None g = Some g
stricter k (Some h) g = Some (cond (k.above h g) h g)

-- the sum and one layer more
abbrev pub sum_with : Kind → Sum → Layer → Sum
sum_with k s (floor_at g) = record { least = stricter k s.least g; rows = s.rows; cols = s.cols }
sum_with k s (shift_by rows cols) = record { least = s.least; rows = s.rows + rows; cols = s.cols + cols }

abbrev pub summed_from : Kind → Sum → List Layer → Sum
summed_from k s [] = s
summed_from k s (y ∷ p) = summed_from k (sum_with k s y) p

-- no floor, and no shift
abbrev pub no_layer : Sum
no_layer = record { least = None; rows = 0; cols = 0 }

abbrev pub summed : Kind → List Layer → Sum
summed k p = summed_from k no_layer p

-- under a floor that may be absent
abbrev pub under : Kind → Option ℕ → Meaning → Meaning
under k None m = m
under k (Some g) m = floored k g m

abbrev pub through : Kind → Sum → Meaning → Meaning
through k s m = shifted s.rows s.cols (under k s.least m)

-- a pile shows what its strictest floor and then all its shifts in one show, and it is refused exactly if the one shift is
abbrev pub OneFloorOneShift : Type 0
OneFloorOneShift =
    (k : Kind)
    → Laws k
    → (p : List Layer) (m : Meaning)
    → Lawful k m
    → (piled k p m ≡ through k (summed k p) m)
    × (pile_refusal k p m ≡ shift_refusal (summed k p).rows (summed k p).cols m)

-- whatever trees show the same marks of one square, equal windows and equal numbers of marks drawn through equal piles give
-- equal lists and counts
abbrev pub SameDraw : Type 0
SameDraw =
    (k : Kind)
    → Laws k
    → (m n : Meaning)
    → Lawful k m
    → Lawful k n
    → m.square ≡ n.square
    → ((x : Spot) → Shows m.tree x → Shows n.tree x)
    → ((x : Spot) → Shows n.tree x → Shows m.tree x)
    → (p : List Layer) (w : Window) (asked : ℕ)
    → 0 < asked
    → (l r : List Spot) (o q : ℕ)
    → Draws k (piled k p m).square (piled k p m).tree w asked l o
    → Draws k (piled k p n).square (piled k p n).tree w asked r q
    → (l ≡ r) × (o ≡ q)
