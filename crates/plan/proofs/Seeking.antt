-- The mark of a cell is the root's, or it is found in the quadrant of the cell.
use Rattle.std.proofs.Common.{◌≡◌, ℕ, zero, suc, ◌<◌, false, Some, None, Option, sym, refl, ap, ◌∙◌, subst, arith}
use Rattle.std.proofs.lemmas.Bool.{false≢true}
use Rattle.grade.specs.Kind.{Kind}
use Rattle.treap.specs.Spots.{Spot}
use Rattle.treap.specs.Trees.{Quadrant, Square, Within, quadrant, Tree, Shows, pick}
use Rattle.treap.specs.Sums.{at_cell, in_cell}
use Rattle.treap.proofs.Shown.{below}
use Rattle.treap.proofs.Counts.{is_at_cell}
use Rattle.treap.proofs.Cells.{cell_in_quadrant}
use Rattle.treap.proofs.Hanging.{one_cell}
use Rattle.plan.specs.Places.{Cell, link, tree_at}
use Rattle.plan.specs.Standing.{tree_in, Stands, Found}
use Rattle.plan.proofs.Descent.{down_falls, down_is, down_stands, at_place}

-- going down from the root in the place i, which is p
module _ {k : Kind} {s : Square} {bound row col : ℕ} (inside : Within s row col) (at : ℕ → Cell) {root : Option ℕ} (stands : Stands k s bound (tree_in s at root))
    {i : ℕ} (is : root ≡ Some i) {p : Cell} (ep : at i ≡ p) where
  st : Stands k s bound (tree_in s at (Some i))
  st = at_place at stands is

  mark_is : (at i).mark ≡ p.mark
  mark_is = ap (λ (c : Cell). c.mark) ep

  at_root : (r : Option Spot) → Found row col (tree_in s at (Some i)) r → Found row col (tree_in s at root) r
  at_root r h = subst (λ (o : Option ℕ). Found row col (tree_in s at o) r) (sym is) h

  module _ (other : at_cell row col p.mark ≡ false) where
    not_here : at_cell row col (at i).mark ≡ false
    not_here = ap (at_cell row col) mark_is ∙ other

    seek_deep : 0 < s.level
    seek_deep = go s.level refl
      where
        go : (l : ℕ) → s.level ≡ l → 0 < l
        go (suc l) e = omega arith
        go zero e =
            let w = one_cell s row col _ _ inside st.ordered.0.inside e in
            absurd (false≢true (sym not_here ∙ is_at_cell row col (at i).mark w.0 w.1))

    module _ (q : Quadrant) (within : Within (quadrant q s) row col) {u : Square} (eu : u ≡ quadrant q s) {o : Option ℕ} (eo : o ≡ link q p) where
      eo' : o ≡ link q (at i)
      eo' = eo ∙ ap (link q) (sym ep)

      pub seek_asks : (u.level < s.level) × (Within u row col × Stands k u bound (tree_in u at o))
      seek_asks = (down_falls at i st q seek_deep eu eo', (rw eu within, down_stands at i st q seek_deep eu eo'))

      same : pick (tree_at s.level at (at i).a) (tree_at s.level at (at i).b) (tree_at s.level at (at i).c) (tree_at s.level at (at i).d) q ≡ tree_in u at o
      same = down_is at i st q seek_deep eu eo'

      go_down : (r : Option Spot) → Found row col (tree_in u at o) r → Found row col (tree_in s at (Some i)) r
      go_down None e =
          cell_in_quadrant k s i (at i).mark _ _ _ _ st.ordered row col not_here q within ∙ ap (in_cell row col) same ∙ e
      go_down (Some x) h =
          (below _ _ _ _ i (at i).mark x q (subst (λ (t : Tree). Shows t x) (sym same) h.0), h.1, h.2)

      pub found_below : (r : Option Spot) → Found row col (tree_in u at o) r → Found row col (tree_in s at root) r
      found_below r h = at_root r (go_down r h)
