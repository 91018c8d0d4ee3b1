-- Going down a tree that stands in places: what holds of a quadrant's tree, and that a change in one quadrant leaves the
-- others as they were.
use Rattle.std.proofs.Common.{◌≡◌, ℕ, zero, suc, pred, ◌+◌, ◌^◌, ◌<◌, ◌≤◌, eqb, Some, None, Option, sym, refl, ap, ◌∙◌, subst, arith}
use Rattle.grade.specs.Kind.{Kind}
use Rattle.treap.specs.Spots.{Spot}
use Rattle.treap.specs.Trees.{Quadrant, tl, tr, bl, br, Square, quadrant, Tree, box, pick}
use Rattle.treap.specs.Sums.{one_if, held}
use Rattle.treap.proofs.Shown.{lawful_quadrant, halves}
use Rattle.treap.proofs.Counts.{one_is}
use Rattle.treap.proofs.Hanging.{hung, pick_numbers, alone_quadrant}
use Rattle.boxtree.specs.Squares.{Divided}
use Rattle.plan.specs.Squares.{Fits}
use Rattle.plan.specs.Places.{Cell, Below, link, relink, tree_at}
use Rattle.plan.specs.Standing.{tree_in, Stands}

-- where the places of a tree's boxes are the same, the tree is
pub tree_same : (l : ℕ) (at bt : ℕ → Cell) (o : Option ℕ) → ((n : ℕ) → 0 < held n (tree_at l at o) → bt n ≡ at n) → tree_at l bt o ≡ tree_at l at o
tree_same l at bt None h = refl
tree_same zero at bt (Some i) h = refl
tree_same (suc l) at bt (Some i) h =
    let e : bt i ≡ at i = h i (omega (arith, one_is i i refl)) in
    let pa = tree_same l at bt (at i).a (λ n p. h n (omega arith)) in
    let pb = tree_same l at bt (at i).b (λ n p. h n (omega arith)) in
    let pc = tree_same l at bt (at i).c (λ n p. h n (omega arith)) in
    let pd = tree_same l at bt (at i).d (λ n p. h n (omega arith)) in
    ap (λ (c : Cell). box i c.mark (tree_at l bt c.a) (tree_at l bt c.b) (tree_at l bt c.c) (tree_at l bt c.d)) e
    ∙ cc (pa, pb, pc, pd)

pub pick_at : (l : ℕ) (at : ℕ → Cell) (p : Cell) (q : Quadrant) → pick (tree_at l at p.a) (tree_at l at p.b) (tree_at l at p.c) (tree_at l at p.d) q ≡ tree_at l at (link q p)
pick_at l at p tl = refl
pick_at l at p tr = refl
pick_at l at p bl = refl
pick_at l at p br = refl

suc_pred : (l : ℕ) → 0 < l → suc (pred l) ≡ l
suc_pred l pos = omega arith

pub level_below : (q : Quadrant) (s : Square) → 0 < s.level → suc (quadrant q s).level ≡ s.level
level_below tl s pos = suc_pred s.level pos
level_below tr s pos = suc_pred s.level pos
level_below bl s pos = suc_pred s.level pos
level_below br s pos = suc_pred s.level pos

-- the tree of a quadrant
pub part_at : (s : Square) (at : ℕ → Cell) (p : Cell) (q : Quadrant)
    → 0 < s.level
    → pick (tree_at s.level at p.a) (tree_at s.level at p.b) (tree_at s.level at p.c) (tree_at s.level at p.d) q ≡ tree_in (quadrant q s) at (link q p)
part_at s at p q pos = pick_at s.level at p q ∙ ap (λ (l : ℕ). tree_at l at (link q p)) (sym (level_below q s pos))

fits_part : (l top left row col : ℕ) → l ≤ 10 → 2 ^ l ≡ 2 ^ pred l + 2 ^ pred l → top + 2 ^ l ≤ 1024 → left + 2 ^ l ≤ 1024
    → row ≤ top + 2 ^ pred l → col ≤ left + 2 ^ pred l → Fits (record { level = pred l; top = row; left = col })
fits_part l top left row col h e rows cols r c =
    let level : pred l ≤ 10 = omega arith in
    let high : row + 2 ^ pred l ≤ 1024 = omega arith in
    let wide : col + 2 ^ pred l ≤ 1024 = omega arith in
    record { level = level; rows = high; cols = wide }

pub fits_below : (s : Square) (q : Quadrant) → 0 < s.level → Fits s → Fits (quadrant q s)
fits_below s tl pos f = fits_part s.level s.top s.left _ _ f.level (halves s.level pos) f.rows f.cols (omega arith) (omega arith)
fits_below s tr pos f = fits_part s.level s.top s.left _ _ f.level (halves s.level pos) f.rows f.cols (omega arith) (omega arith)
fits_below s bl pos f = fits_part s.level s.top s.left _ _ f.level (halves s.level pos) f.rows f.cols (omega arith) (omega arith)
fits_below s br pos f = fits_part s.level s.top s.left _ _ f.level (halves s.level pos) f.rows f.cols (omega arith) (omega arith)

-- a square of a plan that has quadrants lies on the grid
pub divided : (s : Square) → 0 < s.level → Fits s → Divided s
divided s deep f = record { deep = deep; rows = omega (arith, f.rows); cols = omega (arith, f.cols) }

-- a tree that stands in places, with its root in the place i
module _ {k : Kind} {s : Square} {bound : ℕ} (at : ℕ → Cell) (i : ℕ) (st : Stands k s bound (tree_in s at (Some i))) where
  pub root_below : i < bound
  root_below = let no' : bound ≤ i → ⊥ = λ h. omega (arith, st.under i h, one_is i i refl) in omega arith

  module _ (q : Quadrant) where
    abbrev child : Tree
    child = pick (tree_at s.level at (at i).a) (tree_at s.level at (at i).b) (tree_at s.level at (at i).c) (tree_at s.level at (at i).d) q

    child_held : (n : ℕ) → one_if (eqb n i) + held n child ≤ held n (tree_in s at (Some i))
    child_held n = pick_numbers (λ j. one_if (eqb n j)) i (at i).mark _ _ _ _ q

    child_under : (n : ℕ) → bound ≤ n → held n child ≡ 0
    child_under n h = omega (arith, st.under n h, child_held n)

    pub link_below : Below bound (link q (at i))
    link_below = go (link q (at i)) s.level (λ n h. subst (λ (u : Tree). held n u ≡ 0) (pick_at s.level at (at i) q) (child_under n h))
      where
        go : (o : Option ℕ) (l : ℕ) → ((n : ℕ) → bound ≤ n → held n (tree_at l at o) ≡ 0) → Below bound o
        go None l u = tt
        go (Some j) zero u = let no' : bound ≤ j → ⊥ = λ h. omega (arith, u j h, one_is j j refl) in omega arith
        go (Some j) (suc l) u = let no' : bound ≤ j → ⊥ = λ h. omega (arith, u j h, one_is j j refl) in omega arith

    -- the square u of the quadrant, and the place o of its root
    module _ (pos : 0 < s.level) {u : Square} (eu : u ≡ quadrant q s) {o : Option ℕ} (eo : o ≡ link q (at i)) where
      pub down_falls : u.level < s.level
      down_falls = omega (arith, level_below q s pos, ap (λ (x : Square). x.level) eu)

      pub down_is : child ≡ tree_in u at o
      down_is = rw (eu, eo) (part_at s at (at i) q pos)

      pub down_link : tree_at s.level at (link q (at i)) ≡ tree_in u at o
      down_link = sym (pick_at s.level at (at i) q) ∙ down_is

      pub down_stands : Stands k u bound (tree_in u at o)
      down_stands = rw eu (subst (Stands k (quadrant q s) bound) (rw eu at down_is) there)
        where
          there : Stands k (quadrant q s) bound child
          there =
              record {
                fits = fits_below s q pos st.fits;
                few = st.few;
                ordered = lawful_quadrant k s i (at i).mark _ _ _ _ st.ordered q;
                alone = alone_quadrant i (at i).mark _ _ _ _ st.alone q;
                single = λ n. omega (arith, st.single n, child_held n);
                under = child_under;
              }

      pub down_held : (n : ℕ) → one_if (eqb n i) + held n (tree_in u at o) ≤ held n (tree_in s at (Some i))
      down_held n = subst (λ (t : Tree). one_if (eqb n i) + held n t ≤ held n (tree_in s at (Some i))) down_is (child_held n)

      pub down_depth : (bt : ℕ → Cell) (r : Option ℕ) → tree_at s.level bt r ≡ tree_in u bt r
      down_depth bt r = ap (λ (l : ℕ). tree_at l bt r) (sym (level_below q s pos) ∙ ap (λ (x : Square). suc x.level) (sym eu))

      pub down_below : Below bound o
      down_below = subst (Below bound) (sym eo) link_below

-- one quadrant's tree becomes `new`, in the places of its boxes and the place `fresh`, and the root's place is written anew
module _ (l fresh i : ℕ) (j : Option ℕ) (at bt ct : ℕ → Cell) (w : Spot) (single : (n : ℕ) → held n (tree_at (suc l) at (Some i)) ≤ 1)
    (unused : held fresh (tree_at (suc l) at (Some i)) ≡ 0) (rest : (n : ℕ) → (n ≡ i → ⊥) → ct n ≡ bt n) where
  stays : (q o : Option ℕ)
      → ((n : ℕ) → held n (tree_at l at q) ≡ 0 → (n ≡ fresh → ⊥) → bt n ≡ at n)
      → ((n : ℕ) → held n (tree_at l at o) + held n (tree_at l at q) + one_if (eqb n i) ≤ held n (tree_at (suc l) at (Some i)))
      → tree_at l ct o ≡ tree_at l at o
  stays q o outside part =
      tree_same l at ct o
      (λ n p.
      rest n (λ e. omega (arith, single n, part n, one_is n i e))
      ∙ outside n (omega (arith, single n, part n)) (λ e. omega (arith, part n, unused, ap (λ x. held x (tree_at (suc l) at (Some i))) e)))

  becomes : (new : Tree) → tree_at l bt j ≡ new → held i new ≡ 0 → tree_at l ct j ≡ new
  becomes new e z = tree_same l bt ct j (λ n p. rest n (λ s. omega (arith, ap (λ x. held x (tree_at l bt j)) s, ap (held i) e))) ∙ e

  pub graft : (q : Quadrant) (new : Tree)
      → tree_at l bt j ≡ new
      → held i new ≡ 0
      → ((n : ℕ) → held n (tree_at l at (link q (at i))) ≡ 0 → (n ≡ fresh → ⊥) → bt n ≡ at n)
      → ct i ≡ relink q (at i) w j
      → tree_at (suc l) ct (Some i) ≡ hung i w (tree_at l at (at i).a) (tree_at l at (at i).b) (tree_at l at (at i).c) (tree_at l at (at i).d) q new
  graft tl new e z outside put =
      let pa = becomes new e z in
      let pb = stays (at i).a (at i).b outside (λ n. omega arith) in
      let pc = stays (at i).a (at i).c outside (λ n. omega arith) in
      let pd = stays (at i).a (at i).d outside (λ n. omega arith) in
      ap (λ (c : Cell). box i c.mark (tree_at l ct c.a) (tree_at l ct c.b) (tree_at l ct c.c) (tree_at l ct c.d)) put ∙ cc (pa, pb, pc, pd)
  graft tr new e z outside put =
      let pa = stays (at i).b (at i).a outside (λ n. omega arith) in
      let pb = becomes new e z in
      let pc = stays (at i).b (at i).c outside (λ n. omega arith) in
      let pd = stays (at i).b (at i).d outside (λ n. omega arith) in
      ap (λ (c : Cell). box i c.mark (tree_at l ct c.a) (tree_at l ct c.b) (tree_at l ct c.c) (tree_at l ct c.d)) put ∙ cc (pa, pb, pc, pd)
  graft bl new e z outside put =
      let pa = stays (at i).c (at i).a outside (λ n. omega arith) in
      let pb = stays (at i).c (at i).b outside (λ n. omega arith) in
      let pc = becomes new e z in
      let pd = stays (at i).c (at i).d outside (λ n. omega arith) in
      ap (λ (c : Cell). box i c.mark (tree_at l ct c.a) (tree_at l ct c.b) (tree_at l ct c.c) (tree_at l ct c.d)) put ∙ cc (pa, pb, pc, pd)
  graft br new e z outside put =
      let pa = stays (at i).d (at i).a outside (λ n. omega arith) in
      let pb = stays (at i).d (at i).b outside (λ n. omega arith) in
      let pc = stays (at i).d (at i).c outside (λ n. omega arith) in
      let pd = becomes new e z in
      ap (λ (c : Cell). box i c.mark (tree_at l ct c.a) (tree_at l ct c.b) (tree_at l ct c.c) (tree_at l ct c.d)) put ∙ cc (pa, pb, pc, pd)

-- the root is in the place i
module _ {k : Kind} {s : Square} {bound : ℕ} (at : ℕ → Cell) {root : Option ℕ} (stands : Stands k s bound (tree_in s at root)) {i : ℕ} (is : root ≡ Some i) where
  pub at_place : Stands k s bound (tree_in s at (Some i))
  at_place = subst (λ (o : Option ℕ). Stands k s bound (tree_in s at o)) is stands

  pub in_places : i < bound
  in_places = root_below at i at_place

-- a place below the number of places fits a link
pub below_limit : {bound : ℕ} (o : Option ℕ) → bound ≤ 65535 → Below bound o → Below 65535 o
below_limit None few h = tt
below_limit (Some i) few h = omega arith
