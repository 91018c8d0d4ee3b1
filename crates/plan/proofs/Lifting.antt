-- A mark that is taken out of a tree is the root's, and the best mark right below moves up, or it is taken out of its quadrant.
use Rattle.std.proofs.Common.{◌≡◌, ℕ, zero, suc, ◌+◌, ◌<◌, ◌≤◌, true, false, eqb, ◌⊎◌, Some, None, Option, IsSome, sym, refl, ap, ◌∙◌, subst, inl, inr, arith}
use Rattle.std.proofs.lemmas.Bool.{false≢true}
use Rattle.grade.specs.Kind.{Kind, Laws}
use Rattle.treap.specs.Spots.{Spot, Outranks}
use Rattle.treap.specs.Trees.{Quadrant, index, tl, tr, bl, br, Square, Within, quadrant, Tree, none, box, pick, Shows, Hangs}
use Rattle.treap.specs.Sums.{one_if, held, at_cell}
use Rattle.treap.specs.Changes.{Loses}
use Rattle.treap.proofs.Ranks.{tri}
use Rattle.treap.proofs.Shown.{hangs, shown_holds, one_quadrant}
use Rattle.treap.proofs.Counts.{one_is, at_cell_is, is_at_cell}
use Rattle.treap.proofs.Cells.{alone_lone}
use Rattle.treap.proofs.Hanging.{hung}
use Rattle.treap.proofs.Changes.{root_or_below, shows_in_quadrant, level_above, cut_below, pull_up, pull_last}
use Rattle.boxtree.specs.Squares.{Divided}
use Rattle.plan.specs.Places.{Cell, Below, link, relink, tree_at}
use Rattle.plan.specs.Standing.{tree_in, Stands, Linked, Lifted}
use Rattle.plan.specs.Children.{Choice, Best}
use Rattle.plan.proofs.Descent.{pick_at, part_at, divided, link_below, down_falls, down_is, down_link, down_stands, down_held, down_depth, down_below, graft, at_place, below_limit}

-- a link that leads on leads to a place below the bound
below_root : (bound : ℕ) (r o : Option ℕ) → Below bound o → (r ≡ None) ⊎ (r ≡ o) → Below bound r
below_root bound r o h (inl e) = subst (Below bound) (sym e) tt
below_root bound r o h (inr e) = subst (Below bound) (sym e) h

-- the tree whose root is in the place i, which is p
module _ {k : Kind} (L : Laws k) {s : Square} {bound : ℕ} (at : ℕ → Cell) (i : ℕ) (st : Stands k s bound (tree_in s at (Some i))) {p : Cell} (ep : at i ≡ p) where
  abbrev quarter_of : Quadrant → Tree
  quarter_of q = pick (tree_at s.level at (at i).a) (tree_at s.level at (at i).b) (tree_at s.level at (at i).c) (tree_at s.level at (at i).d) q

  pub linked : Linked bound p
  linked q = subst (λ (c : Cell). Below bound (link q c)) ep (link_below at i st q)

  -- no box is left below: the root's place is free
  pub pull_none : Best k at p None → Lifted k s (at i).mark at (Some i) at None i
  pull_none best =
      record {
        loses = subst (λ (t : Tree). Loses k s (at i).mark i t none) (sym tree) (pull_last k s (at i).mark i);
        outside = λ n h. refl;
        root = inl refl;
      }
    where
      empty : (q : Quadrant) → link q (at i) ≡ None
      empty q = ap (link q) ep ∙ best q

      part : (o : Option ℕ) → o ≡ None → tree_at s.level at o ≡ none
      part o e = ap (tree_at s.level at) e

      tree : tree_in s at (Some i) ≡ box i (at i).mark none none none none
      tree = let a = part (at i).a (empty tl) in let b = part (at i).b (empty tr) in let c = part (at i).c (empty bl) in let d = part (at i).d (empty br) in cc (a, b, c, d)

  -- the best box right below
  module _ (c : Choice) (best : Best k at p (Some c)) where
    link_is : link c.quadrant (at i) ≡ Some c.place
    link_is = ap (link c.quadrant) ep ∙ best.0.linked

    pull_deep : 0 < s.level
    pull_deep =
        go s.level
        (subst (Hangs k s (at i).mark) (pick_at s.level at (at i) c.quadrant ∙ ap (tree_at s.level at) link_is) (hangs k s i (at i).mark _ _ _ _ st.ordered c.quadrant))
      where
        go : (l : ℕ) → Hangs k s (at i).mark (tree_at l at (Some c.place)) → 0 < s.level
        go zero h = h.0
        go (suc l) h = h.0

    module _ {u : Square} (eu : u ≡ quadrant c.quadrant s) where
      stands_there : Stands k u bound (tree_in u at (Some c.place))
      stands_there = down_stands at i st c.quadrant pull_deep eu (sym link_is)

      pub pull_asks : (u.level < s.level) × Stands k u bound (tree_in u at (Some c.place))
      pull_asks = (down_falls at i st c.quadrant pull_deep eu (sym link_is), stands_there)

      pick_is : quarter_of c.quadrant ≡ tree_in u at (Some c.place)
      pick_is = down_is at i st c.quadrant pull_deep eu (sym link_is)

      held_part : (n : ℕ) → one_if (eqb n i) + held n (tree_in u at (Some c.place)) ≤ held n (tree_in s at (Some i))
      held_part n = down_held at i st c.quadrant pull_deep eu (sym link_is) n

      mark_is : (at c.place).mark ≡ c.mark
      mark_is = best.0.marked

      shown : Shows (quarter_of c.quadrant) c.mark
      shown = subst (λ (t : Tree). Shows t c.mark) (sym pick_is) (inl (sym mark_is))

      first : (y : Spot) → Shows (quarter_of c.quadrant) y → (y ≡ c.mark) ⊎ Outranks k c.mark y
      first y h =
          subst (λ (m : Spot). (y ≡ m) ⊎ Outranks k m y) mark_is
          (root_or_below k L u c.place (at c.place).mark _ _ _ _ stands_there.ordered y (subst (λ (t : Tree). Shows t y) pick_is h))

      -- the mark of the root of another quadrant is outranked
      over : (x : Quadrant) (j : ℕ) → (index x ≡ index c.quadrant → ⊥) → link x (at i) ≡ Some j → Outranks k c.mark (at j).mark
      over x j ne' e = go (tri k L (at j).mark c.mark)
        where
          there : Stands k (quadrant x s) bound (tree_in (quadrant x s) at (Some j))
          there = down_stands at i st x pull_deep refl (sym e)

          apart : (at j).mark ≡ c.mark → ⊥
          apart same =
              ne' (ap index (one_quadrant s x c.quadrant (at j).mark.row (at j).mark.col there.ordered.0.inside
              (subst (λ (m : Spot). Within (quadrant c.quadrant s) m.row m.col) (mark_is ∙ sym same)
              (subst (λ (v : Square). Within v (at c.place).mark.row (at c.place).mark.col) eu stands_there.ordered.0.inside))))

          go : Outranks k (at j).mark c.mark ⊎ ((at j).mark ≡ c.mark) ⊎ Outranks k c.mark (at j).mark → Outranks k c.mark (at j).mark
          go (inl o) = absurd (best.1 x j (ap (link x) (sym ep) ∙ e) o)
          go (inr (inl same)) = absurd (apart same)
          go (inr (inr o)) = o

      others : (x : Quadrant) → (index x ≡ index c.quadrant → ⊥) → Hangs k s c.mark (quarter_of x)
      others x ne' = subst (Hangs k s c.mark) (sym (part_at s at (at i) x pull_deep)) (go (link x (at i)) refl)
        where
          go : (o : Option ℕ) → link x (at i) ≡ o → Hangs k s c.mark (tree_in (quadrant x s) at o)
          go None e = tt
          go (Some j) e = (pull_deep, over x j ne' e)

      module _ {bt : ℕ → Cell} {r : Option ℕ} {g : ℕ} (lifted : Lifted k u (at c.place).mark at (Some c.place) bt r g) where
        module _ (ct : ℕ → Cell) (put : ct i ≡ relink c.quadrant p c.mark r) (rest : (n : ℕ) → (n ≡ i → ⊥) → ct n ≡ bt n) where
          not_i : held i (tree_in u bt r) ≡ 0
          not_i = omega (arith, lifted.loses.less.numbers (λ x. one_if (eqb i x)), held_part i, st.single i, one_is i i refl)

          tree : tree_in s ct (Some i) ≡ hung i c.mark (tree_at s.level at (at i).a) (tree_at s.level at (at i).b) (tree_at s.level at (at i).c) (tree_at s.level at (at i).d) c.quadrant (tree_in u bt r)
          tree =
              graft s.level bound i r at bt ct c.mark st.single (st.under bound (omega arith)) rest c.quadrant (tree_in u bt r)
              (down_depth at i st c.quadrant pull_deep eu (sym link_is) bt r) not_i
              (λ n z f. lifted.outside n (ap (held n) (sym (down_link at i st c.quadrant pull_deep eu (sym link_is))) ∙ z)) (put ∙ ap (λ (x : Cell). relink c.quadrant x c.mark r) (sym ep))

          turned : (m : Spot) (new : Tree) → (at c.place).mark ≡ m → Loses k u (at c.place).mark g (tree_in u at (Some c.place)) new → Loses k (quadrant c.quadrant s) m g (quarter_of c.quadrant) new
          turned m new e l =
              subst (λ (t : Tree). Loses k (quadrant c.quadrant s) m g t new) (sym pick_is)
              (subst (λ (x : Square). Loses k x m g (tree_in u at (Some c.place)) new) eu
              (subst (λ (x : Spot). Loses k u x g (tree_in u at (Some c.place)) new) e l))

          pub pull_does : Lifted k s (at i).mark at (Some i) ct (Some i) g
          pull_does =
              record {
                loses =
                    subst (Loses k s (at i).mark g (tree_in s at (Some i))) (sym tree)
                    (pull_up k L s i (at i).mark _ _ _ _ st.ordered c.mark g c.quadrant (tree_in u bt r) st.alone pull_deep shown first others
                    (turned c.mark (tree_in u bt r) mark_is lifted.loses));
                outside = λ n z. rest n (λ e. omega (arith, one_is n i e)) ∙ lifted.outside n (omega (arith, held_part n));
                root = inr refl;
              }

-- a tree that shows a mark has a root
pub rooted : (s : Square) (at : ℕ → Cell) (root : Option ℕ) (m : Spot) → Shows (tree_in s at root) m → IsSome root
rooted s at None m shows = absurd shows
rooted s at (Some i) m shows = refl

-- a mark m that the tree shows, whose root is in the place i, which is p
module _ {k : Kind} (L : Laws k) {s : Square} {bound : ℕ} (at : ℕ → Cell) {root : Option ℕ} (stands : Stands k s bound (tree_in s at root)) (m : Spot)
    (shows : Shows (tree_in s at root) m) {i : ℕ} (is : root ≡ Some i) {p : Cell} (ep : at i ≡ p) where
  st : Stands k s bound (tree_in s at (Some i))
  st = at_place at stands is

  here : Shows (tree_in s at (Some i)) m
  here = subst (λ (o : Option ℕ). Shows (tree_in s at o) m) is shows

  pub lift_here : at_cell m.row m.col p.mark ≡ true → {bt : ℕ → Cell} {r : Option ℕ} {g : ℕ} → Lifted k s (at i).mark at (Some i) bt r g → Lifted k s m at root bt r g
  lift_here e {bt} {r} {g} l =
      subst (λ (o : Option ℕ). Lifted k s m at o bt r g) (sym is) (subst (λ (x : Spot). Lifted k s x at (Some i) bt r g) same l)
    where
      cell : (m.row ≡ (at i).mark.row) × (m.col ≡ (at i).mark.col)
      cell = at_cell_is m.row m.col (at i).mark (ap (λ (c : Cell). at_cell m.row m.col c.mark) ep ∙ e)

      same : (at i).mark ≡ m
      same = alone_lone (tree_in s at (Some i)) st.alone (at i).mark m (inl refl) here (sym cell.0) (sym cell.1)

  module _ (other : at_cell m.row m.col p.mark ≡ false) where
    not_root : m ≡ (at i).mark → ⊥
    not_root e =
        false≢true (
        sym (ap (λ (c : Cell). at_cell m.row m.col c.mark) ep ∙ other)
        ∙ is_at_cell m.row m.col (at i).mark (ap (λ (x : Spot). x.row) e) (ap (λ (x : Spot). x.col) e)
        )

    lift_deep : 0 < s.level
    lift_deep = level_above k L s i (at i).mark _ _ _ _ st.ordered m here not_root

    pub lift_divides : Divided s × Within s m.row m.col
    lift_divides = (divided s lift_deep st.fits, (shown_holds k s (tree_in s at (Some i)) st.ordered m here).inside)

    module _ (q : Quadrant) (within : Within (quadrant q s) m.row m.col) {u : Square} (eu : u ≡ quadrant q s) {o : Option ℕ} (eo : o ≡ link q p) where
      eo' : o ≡ link q (at i)
      eo' = eo ∙ ap (link q) (sym ep)

      quarter : Tree
      quarter = pick (tree_at s.level at (at i).a) (tree_at s.level at (at i).b) (tree_at s.level at (at i).c) (tree_at s.level at (at i).d) q

      part_is : quarter ≡ tree_in u at o
      unfolding quarter
      part_is = down_is at i st q lift_deep eu eo'

      shown_there : Shows quarter m
      unfolding quarter
      shown_there = shows_in_quadrant k L s i (at i).mark _ _ _ _ st.ordered m here not_root q within

      pub lift_asks : (u.level < s.level) × (Stands k u bound (tree_in u at o) × Shows (tree_in u at o) m)
      lift_asks = (
        down_falls at i st q lift_deep eu eo',
        (down_stands at i st q lift_deep eu eo', subst (λ (t : Tree). Shows t m) part_is shown_there),
      )

      module _ {bt : ℕ → Cell} {r : Option ℕ} {g : ℕ} (lifted : Lifted k u m at o bt r g) where
        pub lift_link : Below 65535 r
        lift_link = below_limit r st.few (below_root bound r o (down_below at i st q lift_deep eu eo') lifted.root)

        module _ (ct : ℕ → Cell) (put : ct i ≡ relink q p p.mark r) (rest : (n : ℕ) → (n ≡ i → ⊥) → ct n ≡ bt n) where
          held_there : (n : ℕ) → one_if (eqb n i) + held n (tree_in u at o) ≤ held n (tree_in s at (Some i))
          held_there n = down_held at i st q lift_deep eu eo' n

          no_root : held i (tree_in u bt r) ≡ 0
          no_root = omega (arith, lifted.loses.less.numbers (λ x. one_if (eqb i x)), held_there i, st.single i, one_is i i refl)

          written : tree_in s ct (Some i) ≡ hung i (at i).mark (tree_at s.level at (at i).a) (tree_at s.level at (at i).b) (tree_at s.level at (at i).c) (tree_at s.level at (at i).d) q (tree_in u bt r)
          written =
              graft s.level bound i r at bt ct (at i).mark st.single (st.under bound (omega arith)) rest q (tree_in u bt r)
              (down_depth at i st q lift_deep eu eo' bt r) no_root
              (λ n z f. lifted.outside n (ap (held n) (sym (down_link at i st q lift_deep eu eo')) ∙ z))
              (put ∙ ap (λ (x : Cell). relink q x x.mark r) (sym ep))

          moved : (new : Tree) → Loses k u m g (tree_in u at o) new → Loses k (quadrant q s) m g quarter new
          moved new l = subst (λ (t : Tree). Loses k (quadrant q s) m g t new) (sym part_is) (subst (λ (x : Square). Loses k x m g (tree_in u at o) new) eu l)

          pub lift_does : Lifted k s m at root ct (Some i) g
          unfolding quarter
          lift_does =
              subst (λ (x : Option ℕ). Lifted k s m at x ct (Some i) g) (sym is)
              (record {
                loses =
                    subst (Loses k s m g (tree_in s at (Some i))) (sym written)
                    (cut_below k L s i (at i).mark _ _ _ _ st.ordered m g q (tree_in u bt r) shown_there (moved (tree_in u bt r) lifted.loses));
                outside = λ n z. rest n (λ e. omega (arith, one_is n i e)) ∙ lifted.outside n (omega (arith, held_there n));
                root = inr refl;
              })
