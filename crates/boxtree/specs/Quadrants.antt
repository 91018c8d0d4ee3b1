-- Quadrants of the code as the theory has them.
--
--   quadrant_of q   the quadrant
--   Indexed q r     r is the quadrant with the index q; absent where q is above 3
use Rattle.std.specs.Prelude.{◌≡◌, ℕ, ◌≤◌, Ok, Err, Result}
use Rattle.treap.specs.Trees as tree
use Rattle.boxtree.specs.declared.refusal.Absent.{Absent}
use Rattle.boxtree.specs.declared.quadrant.Quadrant.{Quadrant}
use Rattle.boxtree.specs.declared.quadrant.Quadrant.TheVariants.{TopLeft, TopRight, BottomLeft, BottomRight}

abbrev pub quadrant_of : Quadrant → tree.Quadrant
quadrant_of TopLeft = tree.tl
quadrant_of TopRight = tree.tr
quadrant_of BottomLeft = tree.bl
quadrant_of BottomRight = tree.br

abbrev pub Indexed : ℕ → Result Quadrant Absent → Type 0
Indexed q (Ok x) = q ≡ tree.index (quadrant_of x)
Indexed q (Err e) = 4 ≤ q
