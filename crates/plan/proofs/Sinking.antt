-- A mark that is entered stays in the root's box or goes on into a quadrant.
use Rattle.std.proofs.Common.{◌≡◌, ℕ, ◌+◌, ◌<◌, ◌≤◌, eqb, Some, None, Option, sym, refl, ap, ◌∙◌, subst, arith}
use Rattle.grade.specs.Kind.{Kind, Laws}
use Rattle.treap.specs.Spots.{Spot}
use Rattle.treap.specs.Trees.{Quadrant, Square, Within, quadrant, Tree, none, box, pick, Holds}
use Rattle.treap.specs.Sums.{one_if, held, in_cell}
use Rattle.treap.specs.Changes.{Gains, Ranked}
use Rattle.treap.proofs.Counts.{one_is, none_is}
use Rattle.treap.proofs.Hanging.{hung}
use Rattle.treap.proofs.Changes.{room_below, down_inside, free_below, sink_below, sink_first}
use Rattle.plan.specs.Places.{Cell, leaf_of, link, relink, tree_at}
use Rattle.plan.specs.Standing.{tree_in, Sinks, Sunk}
use Rattle.plan.proofs.Descent.{down_falls, down_is, down_link, down_stands, down_held, down_depth, graft}

-- into an empty tree
pub sunk_first : {k : Kind} {s : Square} {bound : ℕ} {m : Spot} {fresh : ℕ} (at bt : ℕ → Cell) {root : Option ℕ}
    → Sinks k s bound m fresh (tree_in s at root)
    → root ≡ None
    → bt fresh ≡ leaf_of m
    → ((n : ℕ) → (n ≡ fresh → ⊥) → bt n ≡ at n)
    → Sunk k s m fresh at root bt fresh
sunk_first {k} {s} {bound} {m} {fresh} at bt h is put rest =
    subst (λ (o : Option ℕ). Sunk k s m fresh at o bt fresh) (sym is)
    (record {
      gains = subst (Gains k s m fresh none) (sym tree) (sink_first k s m fresh h.holds);
      outside = λ n z. rest n;
      root = refl;
    })
  where
    tree : tree_in s bt (Some fresh) ≡ box fresh m none none none none
    tree = ap (λ (c : Cell). box fresh c.mark (tree_at s.level bt c.a) (tree_at s.level bt c.b) (tree_at s.level bt c.c) (tree_at s.level bt c.d)) put

-- into the tree whose root is in the place i, which is p
module _ {k : Kind} (L : Laws k) {s : Square} {bound : ℕ} {m : Spot} {fresh : ℕ} (at : ℕ → Cell) {root : Option ℕ} (sinks : Sinks k s bound m fresh (tree_in s at root))
    {i : ℕ} (is : root ≡ Some i) {p : Cell} (ep : at i ≡ p) {up down : Spot} (ranked : Ranked k m p.mark up down) where
  h : Sinks k s bound m fresh (tree_in s at (Some i))
  h = subst (λ (o : Option ℕ). Sinks k s bound m fresh (tree_in s at o)) is sinks

  ranked' : Ranked k m (at i).mark up down
  ranked' = subst (λ (c : Cell). Ranked k m c.mark up down) (sym ep) ranked

  sink_deep : 0 < s.level
  sink_deep = room_below k L s i (at i).mark _ _ _ _ h.stands.ordered m h.holds h.stands.alone h.free

  down_holds : Holds k s down
  down_holds = down_inside k L s i (at i).mark _ _ _ _ h.stands.ordered m h.holds h.stands.alone h.free up down ranked'

  module _ (q : Quadrant) (within : Within (quadrant q s) down.row down.col) {u : Square} (eu : u ≡ quadrant q s) {o : Option ℕ} (eo : o ≡ link q p) where
    eo' : o ≡ link q (at i)
    eo' = eo ∙ ap (link q) (sym ep)

    pick_is : pick (tree_at s.level at (at i).a) (tree_at s.level at (at i).b) (tree_at s.level at (at i).c) (tree_at s.level at (at i).d) q ≡ tree_in u at o
    pick_is = down_is at i h.stands q sink_deep eu eo'

    held_part : (n : ℕ) → one_if (eqb n i) + held n (tree_in u at o) ≤ held n (tree_in s at (Some i))
    held_part n = down_held at i h.stands q sink_deep eu eo' n

    pub sink_asks : (u.level < s.level) × Sinks k u bound down fresh (tree_in u at o)
    sink_asks = (
      down_falls at i h.stands q sink_deep eu eo',
      record {
        stands = down_stands at i h.stands q sink_deep eu eo';
        holds = record { fair = down_holds.fair; inside = rw eu within };
        free = ap (in_cell down.row down.col) (sym pick_is) ∙ free_below k L s i (at i).mark _ _ _ _ h.stands.ordered m h.holds h.stands.alone h.free up down ranked' q;
        unused = omega (arith, h.unused, held_part fresh);
        room = h.room;
      },
    )

    module _ {bt : ℕ → Cell} {j : ℕ} (sunk : Sunk k u down fresh at o bt j) where
      module _ (ct : ℕ → Cell) (put : ct i ≡ relink q p up (Some j)) (rest : (n : ℕ) → (n ≡ i → ⊥) → ct n ≡ bt n) where
        not_fresh : one_if (eqb i fresh) ≡ 0
        not_fresh = none_is i fresh (λ e. omega (arith, h.unused, ap (λ (x : ℕ). held x (tree_in s at (Some i))) e, one_is i i refl))

        not_i : held i (tree_in u bt (Some j)) ≡ 0
        not_i = omega (arith, sunk.gains.more.numbers (λ x. one_if (eqb i x)), not_fresh, held_part i, h.stands.single i, one_is i i refl)

        tree : tree_in s ct (Some i) ≡ hung i up (tree_at s.level at (at i).a) (tree_at s.level at (at i).b) (tree_at s.level at (at i).c) (tree_at s.level at (at i).d) q (tree_in u bt (Some j))
        tree =
            graft s.level fresh i (Some j) at bt ct up h.stands.single h.unused rest q (tree_in u bt (Some j))
            (down_depth at i h.stands q sink_deep eu eo' bt (Some j)) not_i
            (λ n z. sunk.outside n (ap (held n) (sym (down_link at i h.stands q sink_deep eu eo')) ∙ z)) (put ∙ ap (λ (c : Cell). relink q c up (Some j)) (sym ep))

        gains : Gains k (quadrant q s) down fresh (pick (tree_at s.level at (at i).a) (tree_at s.level at (at i).b) (tree_at s.level at (at i).c) (tree_at s.level at (at i).d) q) (tree_in u bt (Some j))
        gains = turned (tree_in u bt (Some j)) sunk.gains
          where
            turned : (new : Tree) → Gains k u down fresh (tree_in u at o) new → Gains k (quadrant q s) down fresh (pick (tree_at s.level at (at i).a) (tree_at s.level at (at i).b) (tree_at s.level at (at i).c) (tree_at s.level at (at i).d) q) new
            turned new g =
                subst (λ (x : Tree). Gains k (quadrant q s) down fresh x new) (sym pick_is) (subst (λ (x : Square). Gains k x down fresh (tree_in u at o) new) eu g)

        pub sink_does : Sunk k s m fresh at root ct i
        sink_does =
            subst (λ (x : Option ℕ). Sunk k s m fresh at x ct i) (sym is)
            (record {
              gains =
                  subst (Gains k s m fresh (tree_in s at (Some i))) (sym tree)
                  (sink_below k L s i (at i).mark _ _ _ _ h.stands.ordered m h.holds h.stands.alone h.free up down ranked' fresh q (tree_in u bt (Some j)) gains);
              outside = λ n z f. rest n (λ e. omega (arith, one_is n i e)) ∙ sunk.outside n (omega (arith, held_part n)) f;
              root = refl;
            })
