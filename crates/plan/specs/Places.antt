-- Places as the theory has them, and the tree of boxes that they hold.
--
--   Cell                   a place: its mark, and the places of the boxes in its quadrants
--   cells code places      the places by their number
--   tree_at depth at o     the tree whose root is in the place o, or none; past the depth a box is cut short
--   Below n o              the place, if there is one, is below n
use Rattle.std.specs.Prelude.{ℕ, zero, suc, ◌<◌, List, map, Some, None, Option, slice_index_or}
use Rattle.treap.specs.Spots.{Spot}
use Rattle.treap.specs.Trees.{Quadrant, tl, tr, bl, br, Tree, none, box}
use Rattle.boxtree.specs.Marks.{spot_of}
use Rattle.plan.specs.declared.place.Link.{Link}
use Rattle.plan.specs.declared.place.Place.{Place}

pub record Cell : Type 0 where
  pub mark : Spot
  pub a : Option ℕ
  pub b : Option ℕ
  pub c : Option ℕ
  pub d : Option ℕ

abbrev pub link_in : ℕ → Option ℕ
link_in zero = None
link_in (suc n) = Some n

abbrev pub link_of : Link → Option ℕ
link_of l = link_in l.next

-- the place of a quadrant's box, of the links by their indices
abbrev pub link_at : List Link → ℕ → Option ℕ
link_at ls i = link_of (slice_index_or ls i (record { next = 0 }))

abbrev pub Below : ℕ → Option ℕ → Type 0
Below n None = Unit {0}
Below n (Some i) = i < n

abbrev pub cell_of : {G : Type 0} → (G → ℕ) → Place G → Cell
cell_of code p =
    record {
      mark = spot_of code p.mark;
      a = link_at p.links 0;
      b = link_at p.links 1;
      c = link_at p.links 2;
      d = link_at p.links 3;
    }

-- a mark with no box below it
abbrev pub leaf_of : Spot → Cell
leaf_of m = record { mark = m; a = None; b = None; c = None; d = None }

abbrev pub cells : {G : Type 0} → (G → ℕ) → List (Place G) → ℕ → Cell
cells code places n = slice_index_or (map (cell_of code) places) n (leaf_of (record { row = 0; col = 0; grade = 0 }))

abbrev pub link : Quadrant → Cell → Option ℕ
link tl p = p.a
link tr p = p.b
link bl p = p.c
link br p = p.d

-- the place with another mark and another box in quadrant q
abbrev pub relink : Quadrant → Cell → Spot → Option ℕ → Cell
relink tl p m o = record { mark = m; a = o; b = p.b; c = p.c; d = p.d }
relink tr p m o = record { mark = m; a = p.a; b = o; c = p.c; d = p.d }
relink bl p m o = record { mark = m; a = p.a; b = p.b; c = o; d = p.d }
relink br p m o = record { mark = m; a = p.a; b = p.b; c = p.c; d = o }

abbrev pub tree_at : ℕ → (ℕ → Cell) → Option ℕ → Tree
tree_at depth at None = none
tree_at zero at (Some i) = box i (record { row = 0; col = 0; grade = 0 }) none none none none
tree_at (suc depth) at (Some i) =
    box i (at i).mark (tree_at depth at (at i).a) (tree_at depth at (at i).b) (tree_at depth at (at i).c) (tree_at depth at (at i).d)
