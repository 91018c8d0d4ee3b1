-- A box that moves to another place is the root's, or it is moved in the quadrant of its mark.
use Rattle.std.proofs.Common.{◌≡◌, ℕ, zero, suc, ◌+◌, ◌<◌, ◌≤◌, Bool, true, false, eqb, ◌⊎◌, Some, None, Option, sym, refl, ap, ◌∙◌, subst, inl, inr, arith, eqb-true}
use Rattle.grade.specs.Kind.{Kind, Laws}
use Rattle.treap.specs.Spots.{Spot}
use Rattle.treap.specs.Trees.{Quadrant, index, tl, tr, bl, br, Square, Within, quadrant, Tree, box, pick, Shows, Hangs, Ordered}
use Rattle.treap.specs.Sums.{one_if, held}
use Rattle.treap.specs.Changes.{Renumbers}
use Rattle.treap.proofs.Shown.{hangs, lawful_quadrant, shown_holds, one_quadrant, below}
use Rattle.treap.proofs.Counts.{one_is, none_is}
use Rattle.treap.proofs.Hanging.{hung}
use Rattle.treap.proofs.Changes.{renumber_below}
use Rattle.boxtree.specs.Squares.{Divided}
use Rattle.plan.specs.Places.{Cell, Below, link, relink, tree_at}
use Rattle.plan.specs.Standing.{tree_in, Stands, Moves, Moved}
use Rattle.plan.proofs.Descent.{tree_same, pick_at, level_below, divided, down_falls, down_is, down_link, down_stands, down_held, down_depth, down_below, graft, below_limit}

-- a number that a box or one of its quadrants holds
held_split : (n i : ℕ) (m : Spot) (a b c d : Tree) → 1 ≤ held n (box i m a b c d) → (n ≡ i) ⊎ ((q : Quadrant) × (1 ≤ held n (pick a b c d q)))
held_split n i m a b c d h = go (eqb n i) refl
  where
    some : (x y z w : ℕ) → 1 ≤ x + y + z + w → (1 ≤ x) ⊎ (1 ≤ y) ⊎ (1 ≤ z) ⊎ (1 ≤ w)
    some x y z w g = grind arith

    part : (1 ≤ held n a) ⊎ (1 ≤ held n b) ⊎ (1 ≤ held n c) ⊎ (1 ≤ held n d) → (q : Quadrant) × (1 ≤ held n (pick a b c d q))
    part (inl g) = (tl, g)
    part (inr (inl g)) = (tr, g)
    part (inr (inr (inl g))) = (bl, g)
    part (inr (inr (inr g))) = (br, g)

    go : (v : Bool) → eqb n i ≡ v → (n ≡ i) ⊎ ((q : Quadrant) × (1 ≤ held n (pick a b c d q)))
    go true e = inl (eqb-true n i e)
    go false e = inr (part (some (held n a) (held n b) (held n c) (held n d) (omega (arith, ap one_if e))))

-- a box that a tree holds shows the mark of its place
module _ (k : Kind) (at : ℕ → Cell) (n : ℕ) where
  no_part : (s : Square) (m : Spot) (o : Option ℕ) → s.level ≡ 0 → Hangs k s m (tree_at 0 at o) → held n (tree_at 0 at o) ≡ 0
  no_part s m None e h = refl
  no_part s m (Some j) e h = absurd (omega (arith, h.0))

  held_mark_at : (l : ℕ) (s : Square) (o : Option ℕ) → s.level ≡ l → Ordered k s (tree_at (suc l) at o) → 1 ≤ held n (tree_at (suc l) at o) → Shows (tree_at (suc l) at o) (at n).mark
  held_mark_at l s None e h g = absurd (omega arith)
  held_mark_at zero s (Some i) e h g = go (held_split n i (at i).mark _ _ _ _ g)
    where
      none_there : (q : Quadrant) → held n (pick (tree_at 0 at (at i).a) (tree_at 0 at (at i).b) (tree_at 0 at (at i).c) (tree_at 0 at (at i).d) q) ≡ 0
      none_there q =
          subst (λ (t : Tree). held n t ≡ 0) (sym (pick_at 0 at (at i) q))
          (no_part s (at i).mark (link q (at i)) e (subst (Hangs k s (at i).mark) (pick_at 0 at (at i) q) (hangs k s i (at i).mark _ _ _ _ h q)))

      go : (n ≡ i) ⊎ ((q : Quadrant) × (1 ≤ held n (pick (tree_at 0 at (at i).a) (tree_at 0 at (at i).b) (tree_at 0 at (at i).c) (tree_at 0 at (at i).d) q))) → Shows (tree_at 1 at (Some i)) (at n).mark
      go (inl w) = inl (ap (λ (j : ℕ). (at j).mark) w)
      go (inr w) = absurd (omega (arith, w.1, none_there w.0))
  held_mark_at (suc l) s (Some i) e h g =
      go (held_split n i (at i).mark _ _ _ _ g)
      (λ q. held_mark_at l (quadrant q s) (link q (at i)) (low q) (subst (Ordered k (quadrant q s)) (pick_at (suc l) at (at i) q) (lawful_quadrant k s i (at i).mark _ _ _ _ h q)))
    where
      low : (q : Quadrant) → (quadrant q s).level ≡ l
      low q = omega (arith, level_below q s (omega arith))

      go : (n ≡ i) ⊎ ((q : Quadrant) × (1 ≤ held n (pick (tree_at (suc l) at (at i).a) (tree_at (suc l) at (at i).b) (tree_at (suc l) at (at i).c) (tree_at (suc l) at (at i).d) q)))
          → ((q : Quadrant) → 1 ≤ held n (tree_at (suc l) at (link q (at i))) → Shows (tree_at (suc l) at (link q (at i))) (at n).mark)
          → Shows (tree_at (suc (suc l)) at (Some i)) (at n).mark
      go (inl w) f = inl (ap (λ (j : ℕ). (at j).mark) w)
      go (inr w) f =
          below _ _ _ _ i (at i).mark (at n).mark w.0
          (subst (λ (t : Tree). Shows t (at n).mark) (sym (pick_at (suc l) at (at i) w.0)) (f w.0 (subst (λ (t : Tree). 1 ≤ held n t) (pick_at (suc l) at (at i) w.0) w.1)))

  pub held_mark : (s : Square) (o : Option ℕ) → Ordered k s (tree_in s at o) → 1 ≤ held n (tree_in s at o) → Shows (tree_in s at o) (at n).mark
  held_mark s o h g = held_mark_at s.level s o refl h g

-- the tree whose root is in the place i, which is p
module _ {k : Kind} (L : Laws k) {s : Square} {bound : ℕ} {at : ℕ → Cell} {m : Spot} {from to : ℕ} {root : Option ℕ} (moves : Moves k s bound at m from to (tree_in s at root))
    {i : ℕ} (is : root ≡ Some i) {p : Cell} (ep : at i ≡ p) where
  h : Moves k s bound at m from to (tree_in s at (Some i))
  h = subst (λ (o : Option ℕ). Moves k s bound at m from to (tree_in s at o)) is moves

  some_inj : (x y : ℕ) → Some x ≡ Some y → x ≡ y
  some_inj x y e = cc

  -- the root's box moves
  pub move_here : i ≡ from → (bt : ℕ → Cell) → bt to ≡ p → ((n : ℕ) → (n ≡ to → ⊥) → bt n ≡ at n) → Moved k s from to at root bt (Some to)
  move_here e bt put rest =
      subst (λ (o : Option ℕ). Moved k s from to at o bt (Some to)) (sym is)
      (record {
        renumbers =
            subst (Renumbers k s from to (tree_in s at (Some i))) (sym tree)
            (record { ordered = h.stands.ordered; marks = λ f. refl; numbers = λ f. omega (arith, ap f e) });
        outside = λ n z. rest n;
        root = inl (ap Some e, refl);
      })
    where
      stays : (o : Option ℕ) → ((n : ℕ) → held n (tree_at s.level at o) ≤ held n (tree_in s at (Some i))) → tree_at s.level bt o ≡ tree_at s.level at o
      stays o part =
          tree_same s.level at bt o
          (λ n g. rest n (λ w. omega (arith, part n, h.unused, ap (λ (x : ℕ). held x (tree_in s at (Some i))) w)))

      tree : tree_in s bt (Some to) ≡ box to (at i).mark (tree_at s.level at (at i).a) (tree_at s.level at (at i).b) (tree_at s.level at (at i).c) (tree_at s.level at (at i).d)
      tree =
          let a = stays (at i).a (λ n. omega arith) in
          let b = stays (at i).b (λ n. omega arith) in
          let c = stays (at i).c (λ n. omega arith) in
          let d = stays (at i).d (λ n. omega arith) in
          ap (λ (c : Cell). box to c.mark (tree_at s.level bt c.a) (tree_at s.level bt c.b) (tree_at s.level bt c.c) (tree_at s.level bt c.d)) (put ∙ sym ep)
          ∙ cc (a, b, c, d)

  -- a box further down moves
  module _ (other : i ≡ from → ⊥) where
    not_root : one_if (eqb from i) ≡ 0
    not_root = none_is from i (λ e. other (sym e))

    move_deep : 0 < s.level
    move_deep = go s.level refl
      where
        no_child : (q : Quadrant) → s.level ≡ 0 → held from (tree_at s.level at (link q (at i))) ≡ 0
        no_child q e =
            subst (λ (l : ℕ). held from (tree_at l at (link q (at i))) ≡ 0) (sym e)
            (no_part k at from s (at i).mark (link q (at i)) e
            (subst (λ (l : ℕ). Hangs k s (at i).mark (tree_at l at (link q (at i)))) e
            (subst (Hangs k s (at i).mark) (pick_at s.level at (at i) q) (hangs k s i (at i).mark _ _ _ _ h.stands.ordered q))))

        go : (l : ℕ) → s.level ≡ l → 0 < l
        go (suc l) e = omega arith
        go zero e = absurd (omega (arith, h.held_once, not_root, no_child tl e, no_child tr e, no_child bl e, no_child br e))

    abbrev part_of : Quadrant → Tree
    part_of q = pick (tree_at s.level at (at i).a) (tree_at s.level at (at i).b) (tree_at s.level at (at i).c) (tree_at s.level at (at i).d) q

    -- a quadrant that holds the box has its mark
    inside_part : (q : Quadrant) → 1 ≤ held from (part_of q) → Within (quadrant q s) m.row m.col
    inside_part q g =
        subst (λ (x : Spot). Within (quadrant q s) x.row x.col) (sym h.mark)
        (shown_holds k (quadrant q s) (tree_in (quadrant q s) at (link q (at i))) there.ordered (at from).mark
        (held_mark k at from (quadrant q s) (link q (at i)) there.ordered (subst (λ (t : Tree). 1 ≤ held from t) (down_is at i h.stands q move_deep refl refl) g))).inside
      where
        there : Stands k (quadrant q s) bound (tree_in (quadrant q s) at (link q (at i)))
        there = down_stands at i h.stands q move_deep refl refl

    move_inside : Within s m.row m.col
    move_inside =
        subst (λ (x : Spot). Within s x.row x.col) (sym h.mark)
        (shown_holds k s (tree_in s at (Some i)) h.stands.ordered (at from).mark (held_mark k at from s (Some i) h.stands.ordered (omega (arith, h.held_once)))).inside

    pub move_divides : Divided s × Within s m.row m.col
    move_divides = (divided s move_deep h.stands.fits, move_inside)

    module _ (q : Quadrant) (within : Within (quadrant q s) m.row m.col) {u : Square} (eu : u ≡ quadrant q s) {o : Option ℕ} (eo : o ≡ link q p) where
      eo' : o ≡ link q (at i)
      eo' = eo ∙ ap (link q) (sym ep)

      empty : (x : Quadrant) → (index x ≡ index q → ⊥) → held from (part_of x) ≡ 0
      empty x ne' = go (held from (part_of x)) refl
        where
          go : (v : ℕ) → held from (part_of x) ≡ v → v ≡ 0
          go zero e = refl
          go (suc v) e = absurd (ne' (ap index (one_quadrant s x q m.row m.col (inside_part x (omega arith)) within)))

      once : held from (part_of q) ≡ 1
      once = go q empty
        where
          go : (q : Quadrant) → ((x : Quadrant) → (index x ≡ index q → ⊥) → held from (part_of x) ≡ 0) → held from (part_of q) ≡ 1
          go tl f = omega (arith, h.held_once, not_root, f tr (λ e. omega arith), f bl (λ e. omega arith), f br (λ e. omega arith))
          go tr f = omega (arith, h.held_once, not_root, f tl (λ e. omega arith), f bl (λ e. omega arith), f br (λ e. omega arith))
          go bl f = omega (arith, h.held_once, not_root, f tl (λ e. omega arith), f tr (λ e. omega arith), f br (λ e. omega arith))
          go br f = omega (arith, h.held_once, not_root, f tl (λ e. omega arith), f tr (λ e. omega arith), f bl (λ e. omega arith))

      part_is : part_of q ≡ tree_in u at o
      part_is = down_is at i h.stands q move_deep eu eo'

      held_part : (n : ℕ) → one_if (eqb n i) + held n (tree_in u at o) ≤ held n (tree_in s at (Some i))
      held_part n = down_held at i h.stands q move_deep eu eo' n

      pub move_asks : (u.level < s.level) × Moves k u bound at m from to (tree_in u at o)
      move_asks = (
        down_falls at i h.stands q move_deep eu eo',
        record {
          stands = down_stands at i h.stands q move_deep eu eo';
          held_once = ap (held from) (sym part_is) ∙ once;
          unused = omega (arith, h.unused, held_part to);
          room = h.room;
          mark = h.mark;
        },
      )

      module _ {bt : ℕ → Cell} {r : Option ℕ} (moved : Moved k u from to at o bt r) where
        pub move_link : Below 65535 r
        move_link = below_limit r h.stands.few (go moved.root)
          where
            go : ((o ≡ Some from) × (r ≡ Some to)) ⊎ ((o ≡ Some from → ⊥) × (r ≡ o)) → Below bound r
            go (inl e) = subst (Below bound) (sym e.1) h.room
            go (inr e) = subst (Below bound) (sym e.1) (down_below at i h.stands q move_deep eu eo')

        module _ (ct : ℕ → Cell) (put : ct i ≡ relink q p p.mark r) (rest : (n : ℕ) → (n ≡ i → ⊥) → ct n ≡ bt n) where
          not_to : one_if (eqb i to) ≡ 0
          not_to = none_is i to (λ e. omega (arith, h.unused, ap (λ (x : ℕ). held x (tree_in s at (Some i))) e, one_is i i refl))

          no_root : held i (tree_in u bt r) ≡ 0
          no_root = omega (arith, moved.renumbers.numbers (λ x. one_if (eqb i x)), held_part i, h.stands.single i, one_is i i refl, not_to)

          written : tree_in s ct (Some i) ≡ hung i (at i).mark (tree_at s.level at (at i).a) (tree_at s.level at (at i).b) (tree_at s.level at (at i).c) (tree_at s.level at (at i).d) q (tree_in u bt r)
          written =
              graft s.level to i r at bt ct (at i).mark h.stands.single h.unused rest q (tree_in u bt r)
              (down_depth at i h.stands q move_deep eu eo' bt r) no_root
              (λ n z f. moved.outside n (ap (held n) (sym (down_link at i h.stands q move_deep eu eo')) ∙ z) f)
              (put ∙ ap (λ (x : Cell). relink q x x.mark r) (sym ep))

          turned : (new : Tree) → Renumbers k u from to (tree_in u at o) new → Renumbers k (quadrant q s) from to (part_of q) new
          turned new v =
              subst (λ (t : Tree). Renumbers k (quadrant q s) from to t new) (sym part_is) (subst (λ (x : Square). Renumbers k x from to (tree_in u at o) new) eu v)

          pub move_does : Moved k s from to at root ct (Some i)
          move_does =
              subst (λ (x : Option ℕ). Moved k s from to at x ct (Some i)) (sym is)
              (record {
                renumbers =
                    subst (Renumbers k s from to (tree_in s at (Some i))) (sym written)
                    (renumber_below k L s i (at i).mark _ _ _ _ h.stands.ordered from to q (tree_in u bt r) move_deep (turned (tree_in u bt r) moved.renumbers));
                outside = λ n z f. rest n (λ e. omega (arith, one_is n i e)) ∙ moved.outside n (omega (arith, held_part n)) f;
                root = inr (λ e. other (some_inj i from e), refl);
              })
