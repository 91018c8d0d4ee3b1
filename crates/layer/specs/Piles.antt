-- Piles of the code as the theory has them, where a grade is its code.
--
--   layer_of code y                the layer y
--   layers_of code p               the pile p
--   sum_of code least rows cols    what a pile comes to: its strictest floor, if it has one, and the rows and the columns of its shifts
use Rattle.std.specs.Prelude.{ℕ, List, map, Option}
use Rattle.grade.specs.Kind.{codes}
use Rattle.treap.specs.Piles as piles
use Rattle.layer.specs.declared.pile.Layer.{Layer}
use Rattle.layer.specs.declared.pile.Layer.TheVariants.{Floor, Shift}

abbrev pub layer_of : {G : Type 0} → (G → ℕ) → Layer G → piles.Layer
layer_of code (Floor g) = piles.floor_at (code g)
layer_of code (Shift rows cols) = piles.shift_by rows cols

abbrev pub layers_of : {G : Type 0} → (G → ℕ) → List (Layer G) → List piles.Layer
layers_of code p = map (layer_of code) p

abbrev pub sum_of : {G : Type 0} → (G → ℕ) → Option G → ℕ → ℕ → piles.Sum
sum_of code least rows cols = record { least = codes code least; rows = rows; cols = cols }
