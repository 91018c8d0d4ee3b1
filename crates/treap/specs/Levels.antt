-- The boxes of a tree in level order: level by level from the top, and within a level from the first quadrant to the last.
--
--   kids f            the quadrants of the boxes of f, four a box, the empty ones too
--   boxes f           the trees of f that have a box
--   levels n f        f and the n levels below it
--   level_order n t   the boxes of a tree whose square has the level n
--   marks_of f        the marks of the boxes of f
use Rattle.std.specs.Prelude.{ℕ, zero, suc, List, [], ◌∷◌, ◌++◌}
use Rattle.treap.specs.Spots.{Spot}
use Rattle.treap.specs.Trees.{Tree, none, box}

abbrev pub kids : List Tree → List Tree
kids [] = []
kids (none ∷ f) = kids f
kids (box n m a b c d ∷ f) = a ∷ b ∷ c ∷ d ∷ kids f

abbrev pub boxes : List Tree → List Tree
boxes [] = []
boxes (none ∷ f) = boxes f
boxes (box n m a b c d ∷ f) = box n m a b c d ∷ boxes f

abbrev pub levels : ℕ → List Tree → List Tree
levels zero f = f
levels (suc n) f = f ++ levels n (boxes (kids f))

abbrev pub level_order : ℕ → Tree → List Tree
level_order n t = levels n (boxes (t ∷ []))

abbrev pub marks_of : List Tree → List Spot
marks_of [] = []
marks_of (none ∷ f) = marks_of f
marks_of (box n m a b c d ∷ f) = m ∷ marks_of f
