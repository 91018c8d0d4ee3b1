-- What opening a box does to the boxes that wait, and to the list.
--
--   with o es        the entries es, and o if there is one
--   few f n          how many boxes stand in the first n quadrants of f
--   Opening w f n l r
--                    of the boxes r that wait, those that are not of l are the boxes in the first n quadrants of f that touch the
--                    window, and they are no more than there are
--   Enlisted         the mark stands in the next place of the list if it lies in the window, and the number of the listed says so
use Rattle.std.specs.Prelude.{◌≡◌, ℕ, zero, suc, ◌+◌, ◌≤◌, cond, List, ◌∷◌, ◌++◌, Some, None, Option, slice_set}
use Rattle.std.specs.List.Sorted.{IsPermutation}
use Rattle.treap.specs.Trees.{sub, count}
use Rattle.treap.specs.Draws.{Window}
use Rattle.treap.specs.Searches.{Node, tree, KidsBelow}
use Rattle.boxtree.specs.declared.mark.Mark.{Mark}
use Rattle.boxtree.specs.Marks.{spot_of}
use Rattle.draw.specs.Nodes.{seeing, weight}

abbrev pub with : {E : Type 0} → Option E → List E → List E
with None es = es
with (Some e) es = e ∷ es

abbrev pub few : Node → ℕ → ℕ
few f zero = 0
few f (suc n) = few f n + count (sub n (tree f))

pub record Opening (w : Window) (f : Node) (n : ℕ) (before after : List Node) : Type 0 where
  pub kids : List Node
  pub are : KidsBelow w f n kids
  pub shuffled : IsPermutation (kids ++ before) after
  pub light : weight kids ≤ few f n

module _ {G : Type 0} (code : G → ℕ) (w : Window) (mark : Mark G) (listed : ℕ) (list list' : List (Mark G)) (listed' : ℕ) where
  pub record Enlisted : Type 0 where
    pub counted : listed' ≡ cond (seeing w (spot_of code mark)) (listed + 1) listed
    pub stored : list' ≡ cond (seeing w (spot_of code mark)) (slice_set list listed mark) list
