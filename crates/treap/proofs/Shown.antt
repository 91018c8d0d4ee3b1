-- What a lawful tree shows: marks of the kind, in the square, below the root's; and one tree for one set of marks.
use Rattle.std.proofs.Common.{◌≡◌, ℕ, zero, suc, pred, ◌+◌, ◌^◌, ◌<◌, ◌⊎◌, sym, refl, ◌∙◌, subst, inl, inr, arith}
use Rattle.grade.specs.Kind.{Kind, Laws}
use Rattle.treap.specs.Spots.{Spot, Outranks}
use Rattle.treap.specs.Trees.{Quadrant, tl, tr, bl, br, Square, Within, quadrant, Tree, none, box, pick, Shows, Holds, Hangs, Ordered, OneTree}
use Rattle.treap.proofs.Lists.{by_quadrant}
use Rattle.treap.proofs.Ranks.{irrefl_eq, trans, asym}

-- what a quadrant shows its box shows
pub below : (a b c d : Tree) (i : ℕ) (m x : Spot) (q : Quadrant) → Shows (pick a b c d q) x → Shows (box i m a b c d) x
below a b c d i m x tl h = search (inl, inr)
below a b c d i m x q h = search (inl, inr)

pub split : (a b c d : Tree) (m x : Spot) (i : ℕ) → Shows (box i m a b c d) x → (x ≡ m) ⊎ ((q : Quadrant) × Shows (pick a b c d q) x)
split a b c d m x i (inl e) = inl e
split a b c d m x i (inr (inl h)) = inr (tl, h)
split a b c d m x i (inr (inr (inl h))) = inr (tr, h)
split a b c d m x i (inr (inr (inr (inl h)))) = inr (bl, h)
split a b c d m x i (inr (inr (inr (inr h)))) = inr (br, h)

pub hangs : (k : Kind) (s : Square) (i : ℕ) (m : Spot) (a b c d : Tree) → Ordered k s (box i m a b c d) → (q : Quadrant) → Hangs k s m (pick a b c d q)
hangs k s i m a b c d h = by_quadrant _ h.1.0 h.1.1 h.1.2 h.1.3

pub lawful_quadrant : (k : Kind) (s : Square) (i : ℕ) (m : Spot) (a b c d : Tree) → Ordered k s (box i m a b c d) → (q : Quadrant) → Ordered k (quadrant q s) (pick a b c d q)
lawful_quadrant k s i m a b c d h = by_quadrant _ h.2.0 h.2.1 h.2.2 h.2.3

pub halves : (h : ℕ) → 0 < h → 2 ^ h ≡ 2 ^ pred h + 2 ^ pred h
halves zero h = omega arith
halves (suc n) h = omega arith

-- a quadrant of a square that has quadrants lies in it
pub within_quadrant : (s : Square) (q : Quadrant) (row col : ℕ) → 0 < s.level → Within (quadrant q s) row col → Within s row col
within_quadrant s tl row col l w = let e = halves s.level l in search arith
within_quadrant s q row col l w = let e = halves s.level l in search arith

-- a cell lies in one quadrant at most
pub one_quadrant : (s : Square) (p q : Quadrant) (row col : ℕ) → Within (quadrant p s) row col → Within (quadrant q s) row col → p ≡ q
one_quadrant s tl tl row col v w = refl
one_quadrant s tr tr row col v w = refl
one_quadrant s bl bl row col v w = refl
one_quadrant s br br row col v w = refl
one_quadrant s _ _ row col v w = absurd (omega arith)

-- what a lawful tree shows is of the kind and in its square
lift : (k : Kind) (s : Square) (m x : Spot) (q : Quadrant) (u : Tree) → Hangs k s m u → Shows u x → Holds k (quadrant q s) x → Holds k s x
lift k s m x q none h g w = absurd g
lift k s m x q (box i y a b c d) h g w = record { fair = w.fair; inside = within_quadrant s q x.row x.col h.0 w.inside }

pub shown_holds : (k : Kind) (s : Square) (t : Tree) → Ordered k s t → (x : Spot) → Shows t x → Holds k s x
shown_holds k s none h x g = absurd g
shown_holds k s (box i m a b c d) h x g =
    let each : (q : Quadrant) → Shows (pick a b c d q) x → Holds k (quadrant q s) x =
    by_quadrant _ (shown_holds k (quadrant tl s) a h.2.0 x) (shown_holds k (quadrant tr s) b h.2.1 x) (shown_holds k (quadrant bl s) c h.2.2 x) (shown_holds k (quadrant br s) d h.2.3 x) in
    elim (split a b c d m x i g) [
      | inl e ↦ subst (λ (y : Spot). Holds k s y) (sym e) h.0
      | inr v ↦ lift k s m x v.0 (pick a b c d v.0) (hangs k s i m a b c d h v.0) v.1 (each v.0 v.1)
    ]

-- a mark that a tree hangs under outranks all that the tree shows
pub over : (k : Kind) → Laws k → (s r : Square) (m : Spot) (u : Tree) → Ordered k r u → Hangs k s m u → (x : Spot) → Shows u x → Outranks k m x
over k L s r m none h g x e = absurd e
over k L s r m (box i y a b c d) h g x e =
    let each : (q : Quadrant) → Shows (pick a b c d q) x → Outranks k y x =
    by_quadrant _ (over k L r (quadrant tl r) y a h.2.0 h.1.0 x) (over k L r (quadrant tr r) y b h.2.1 h.1.1 x) (over k L r (quadrant bl r) y c h.2.2 h.1.2 x) (over k L r (quadrant br r) y d h.2.3 h.1.3 x) in
    elim (split a b c d y x i e) [ inl p ↦ subst (λ (z : Spot). Outranks k m z) (sym p) g.1 | inr v ↦ trans k L m y x g.1 (each v.0 v.1) ]

-- the root's mark outranks each mark of a quadrant
pub root_over : (k : Kind) → Laws k → (s : Square) (i : ℕ) (m : Spot) (a b c d : Tree) → Ordered k s (box i m a b c d) → (q : Quadrant) (x : Spot) → Shows (pick a b c d q) x → Outranks k m x
root_over k L s i m a b c d h q x g = over k L s (quadrant q s) m (pick a b c d q) (lawful_quadrant k s i m a b c d h q) (hangs k s i m a b c d h q) x g

-- two lawful trees: what the first shows the second does
module _ (k : Kind) (L : Laws k) (s : Square) (i j : ℕ) (m n : Spot) (a b c d a' b' c' d' : Tree) (ht : Ordered k s (box i m a b c d)) (hu : Ordered k s (box j n a' b' c' d')) where
  pub same_root : Shows (box j n a' b' c' d') m → Shows (box i m a b c d) n → m ≡ n
  same_root p q =
      elim (split a' b' c' d' n m j p) [
        | inl e ↦ e
        | inr v ↦ elim (split a b c d m n i q) [
          | inl e ↦ sym e
          | inr w ↦ absurd (asym k L m n (root_over k L s i m a b c d ht w.0 n w.1) (root_over k L s j n a' b' c' d' hu v.0 m v.1))
        ]
      ]

  pub narrow : m ≡ n → ((x : Spot) → Shows (box i m a b c d) x → Shows (box j n a' b' c' d') x) → (q : Quadrant) (x : Spot) → Shows (pick a b c d q) x → Shows (pick a' b' c' d' q) x
  narrow e f q x g =
      elim (split a' b' c' d' n x j (f x (below a b c d i m x q g))) [
        | inl p ↦ absurd (irrefl_eq k m x (e ∙ sym p) (root_over k L s i m a b c d ht q x g))
        | inr w ↦ subst (λ (p : Quadrant). Shows (pick a' b' c' d' p) x)
            (one_quadrant s w.0 q x.row x.col
            (shown_holds k (quadrant w.0 s) (pick a' b' c' d' w.0) (lawful_quadrant k s j n a' b' c' d' hu w.0) x w.1).inside
            (shown_holds k (quadrant q s) (pick a b c d q) (lawful_quadrant k s i m a b c d ht q) x g).inside)
            w.1
      ]

pub one_tree_lem : OneTree
one_tree_lem k L s none none ht hu f g = refl
one_tree_lem k L s none (box j n a' b' c' d') ht hu f g = absurd (g n (inl refl))
one_tree_lem k L s (box i m a b c d) none ht hu f g = absurd (f m (inl refl))
one_tree_lem k L s (box i m a b c d) (box j n a' b' c' d') ht hu f g =
    let e = same_root k L s i j m n a b c d a' b' c' d' ht hu (f m (inl refl)) (g n (inl refl)) in
    let to = narrow k L s i j m n a b c d a' b' c' d' ht hu e f in
    let fro = narrow k L s j i n m a' b' c' d' a b c d hu ht (sym e) g in
    let ea = one_tree_lem k L (quadrant tl s) a a' ht.2.0 hu.2.0 (to tl) (fro tl) in
    let eb = one_tree_lem k L (quadrant tr s) b b' ht.2.1 hu.2.1 (to tr) (fro tr) in
    let ec = one_tree_lem k L (quadrant bl s) c c' ht.2.2 hu.2.2 (to bl) (fro bl) in
    let ed = one_tree_lem k L (quadrant br s) d d' ht.2.3 hu.2.3 (to br) (fro br) in
    λ z. box 0 (e z) (ea z) (eb z) (ec z) (ed z)
