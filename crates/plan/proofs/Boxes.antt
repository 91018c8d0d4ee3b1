-- What the tree of a plan has under a number: the box of that place, or none where there are not so many.
use Rattle.std.proofs.Common.{◌≡◌, ℕ, zero, suc, ◌≤◌, le-ltb, List, Some, None, Ok, Err, Option, sym, refl, ap, ◌∙◌, inl, inr, arith, true, false, ltb}
use Rattle.grade.specs.Kind.{Kind}
use Rattle.treap.specs.Spots.{Spot}
use Rattle.treap.specs.Trees.{Quadrant, tl, tr, bl, br, index, Square, quadrant, Tree, none, box, pick, number, sub, find, Hangs, Ordered}
use Rattle.treap.specs.Draws.{Part, whole, deeper}
use Rattle.treap.specs.Sums.{one_if}
use Rattle.treap.specs.Entries.{plan_square}
use Rattle.treap.proofs.Shown.{hangs}
use Rattle.treap.proofs.Needed.{part_lawful}
use Rattle.treap.proofs.Find.{Found, found}
use Rattle.treap.proofs.Held.{unheld_none, none_unheld}
use Rattle.boxtree.specs.Answers.{absent, child_of, mark_of}
use Rattle.plan.specs.declared.place.Place.{Place}
use Rattle.plan.specs.Places.{Cell, cell_of, cells, link, tree_at}
use Rattle.plan.specs.Standing.{tree_in}
use Rattle.plan.specs.Plans.{root, plan_tree, Shape}
use Rattle.plan.specs.Boxes.{BoxRead}
use Rattle.plan.proofs.Descent.{level_below}

number_at : (l : ℕ) (at : ℕ → Cell) (o : Option ℕ) → number (tree_at l at o) ≡ o
number_at l at None = refl
number_at zero at (Some i) = refl
number_at (suc l) at (Some i) = refl

module _ (at : ℕ → Cell) where
  quadrant_is : (r : Square) (i : ℕ) (m : Spot) (a b c d : Tree) → box i m a b c d ≡ tree_in r at (Some i) → (q : Quadrant) → pick a b c d q ≡ tree_at r.level at (link q (at i))
  quadrant_is r i m a b c d e tl = ap (sub 0) e
  quadrant_is r i m a b c d e tr = ap (sub 1) e
  quadrant_is r i m a b c d e bl = ap (sub 2) e
  quadrant_is r i m a b c d e br = ap (sub 3) e

  -- a box stands only below a square that has quadrants, so it is not cut short
  not_cut : (k : Kind) (r : Square) (m : Spot) (q : Quadrant) (o : Option ℕ) (t : Tree) → t ≡ tree_at r.level at o → Hangs k r m t → t ≡ tree_in (quadrant q r) at (number t)
  not_cut k r m q o none e h = refl
  not_cut k r m q o (box j x a b c d) e h =
      e
      ∙ ap (λ (l : ℕ). tree_at l at o) (sym (level_below q r h.0))
      ∙ ap (tree_at (suc (quadrant q r).level) at) (sym (ap number e ∙ number_at r.level at o))

  -- each part of the tree is the tree of the place that its number names
  part_is : (k : Kind) {s : Square} {t : Tree} {r : Square} {u : Tree} → Part s t r u → Ordered k s t → t ≡ tree_in s at (number t) → u ≡ tree_in r at (number u)
  part_is k whole h e = e
  part_is k (deeper {r = r} {i = i} {m = m} {a = a} {b = b} {c = c} {d = d} p q) h e =
      not_cut k r m q (link q (at i)) (pick a b c d q) (quadrant_is r i m a b c d (part_is k p h e) q)
      (hangs k r i m a b c d (part_lawful k p h) q)

  child_is : (r : Square) (b : ℕ) (q : Quadrant) → child_of (index q) (tree_in r at (Some b)) ≡ Ok (link q (at b))
  child_is r b tl = ap Ok (number_at r.level at (at b).a)
  child_is r b tr = ap Ok (number_at r.level at (at b).b)
  child_is r b bl = ap Ok (number_at r.level at (at b).c)
  child_is r b br = ap Ok (number_at r.level at (at b).d)

-- no box has a child past the fourth quadrant
pub child_past : (t : Tree) (q : ℕ) {m : Spot} → Ok m ≡ mark_of t → 4 ≤ q → Err absent ≡ child_of q t
child_past none q e h = let z : ◌≡◌ {A = ℕ} 0 1 = cc in absurd (omega arith)
child_past (box i m a b c d) q e h = rw (le-ltb q 4 h)

module _ {G : Type 0} {kind : Kind} {code : G → ℕ} {h n : ℕ} {ps : List (Place G)} (s : Shape kind code h n ps) (b : ℕ) where
  pub box_past : ltb b n ≡ false → find b (plan_tree code h n ps) ≡ none
  box_past high = unheld_none b (plan_tree code h n ps) (s.numbered b ∙ ap one_if high)

  module _ (low : ltb b n ≡ true) where
    box_is : (r : Square) × (find b (plan_tree code h n ps) ≡ tree_in r (cells code ps) (Some b))
    box_is = go (found (plan_square h) b (plan_tree code h n ps))
      where
        go : Found (plan_square h) b (plan_tree code h n ps) (find b (plan_tree code h n ps)) → (r : Square) × (find b (plan_tree code h n ps) ≡ tree_in r (cells code ps) (Some b))
        go (inl e) = absurd (omega (arith, none_unheld b (plan_tree code h n ps) e, s.numbered b, ap one_if low))
        go (inr x) = (
          x.0,
          part_is (cells code ps) kind x.1 s.ordered (ap (tree_in (plan_square h) (cells code ps)) (sym (number_at (suc h) (cells code ps) (root n))))
              ∙ ap (tree_in x.0 (cells code ps)) x.2,
        )

    pub box_read : (p : Place G) → cells code ps b ≡ cell_of code p → BoxRead code (find b (plan_tree code h n ps)) (Ok p)
    box_read p e = (
      sym (ap mark_of box_is.1 ∙ ap (λ (c : Cell). Ok c.mark) e),
      λ q. sym (ap (child_of (index q)) box_is.1 ∙ child_is (cells code ps) box_is.0 b q ∙ ap (λ (c : Cell). Ok (link q c)) e),
    )
