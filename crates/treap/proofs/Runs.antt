-- The boxes right below a box that touch the window; and a search with nothing to look at.
use Rattle.std.proofs.Common.{◌≡◌, ℕ, ◌+◌, ◌<◌, ◌⊎◌, List, [], ◌∷◌, sym, refl, subst, inl, inr, arith}
use Rattle.grade.specs.Kind.{Kind, Laws}
use Rattle.treap.specs.Spots.{Outranks}
use Rattle.treap.specs.Trees.{Quadrant, index, tl, tr, bl, br, Square, quadrant, Tree, none, box, count, In}
use Rattle.treap.specs.Draws.{Window, Touches, Part}
use Rattle.treap.specs.Searches.{Node, tree, child, Share, Spread, KidsBelow}
use Rattle.treap.proofs.Ranks.{irrefl_eq, trans, asym, tri}
use Rattle.treap.proofs.Counted.{touches?}
use Rattle.treap.proofs.Kids.{kids_none, kids_skip, kids_push, kids_all}
use Rattle.treap.proofs.Walks.{Kids, Search}

module _ (w : Window) (f : Node) where
  step : (q : Quadrant) → (l : List Node) × KidsBelow w f (index q) l → (l : List Node) × KidsBelow w f (index q + 1) l
  step q h = go (touches? (quadrant q f.square) w) (child f q) refl
    where
      go : Dec (Touches (quadrant q f.square) w) → (u : Tree) → child f q ≡ u → (l : List Node) × KidsBelow w f (index q + 1) l
      go (no v) u e = (h.0, kids_skip w f h.0 q h.1 (inr v))
      go (yes v) none e = (h.0, kids_skip w f h.0 q h.1 (inl e))
      go (yes v) (box i m a b c d) e =
          let g : Node = record { square = quadrant q f.square; number = i; mark = m; a = a; b = b; c = c; d = d } in
          (g ∷ h.0, kids_push w f h.0 q h.1 g refl (sym e) v)

  stepped : (l : List Node) × KidsBelow w f 4 l
  stepped = step br (step bl (step tr (step tl ([], kids_none w f))))

  pub brood : List Node
  brood = stepped.0

  pub brood_kids : Kids w f brood
  unfolding brood
  brood_kids = kids_all w f stepped.0 stepped.1

abbrev weight : List Node → ℕ
weight [] = 0
weight (e ∷ l) = count (tree e) + weight l

-- some box that no other of the list outranks, and the others
pub record Pulled (k : Kind) (l : List Node) : Type 0 where
  pub node : Node
  pub rest : List Node
  pub to : (e : Node) → In l e → In (node ∷ rest) e
  pub fro : (e : Node) → In (node ∷ rest) e → In l e
  pub spread : Spread (node ∷ rest)
  pub best : (e : Node) → In rest e → Outranks k e.mark node.mark → ⊥
  pub same : count (tree node) + weight rest ≡ weight l

pub share_sym : (r s : Square) → Share r s → Share s r
share_sym r s h = record { row = h.row; col = h.col; first = h.second; second = h.first }

pub pull : (k : Kind) → Laws k → (y : Node) (l : List Node) → Spread (y ∷ l) → Pulled k (y ∷ l)
pull k L y [] sp = record { node = y; rest = []; to = λ e p. p; fro = λ e p. p; spread = sp; best = λ e p. absurd p; same = refl }
pull k L y (z ∷ l) sp = go (pull k L z l sp.1)
  where
    go : Pulled k (z ∷ l) → Pulled k (y ∷ z ∷ l)
    go P = cases (tri k L y.mark P.node.mark)
      where
        up : Outranks k y.mark P.node.mark → (e : Node) → In (P.node ∷ P.rest) e → Outranks k e.mark y.mark → ⊥
        up o e (inl x) g = asym k L y.mark P.node.mark o (subst (λ (v : Node). Outranks k v.mark y.mark) x g)
        up o e (inr x) g = P.best e x (trans k L e.mark y.mark P.node.mark g o)

        swap_to : (e : Node) → In (y ∷ z ∷ l) e → In (P.node ∷ y ∷ P.rest) e
        swap_to e (inl x) = inr (inl x)
        swap_to e (inr x) = elim (P.to e x) [ inl v ↦ inl v | inr v ↦ inr (inr v) ]

        swap_fro : (e : Node) → In (P.node ∷ y ∷ P.rest) e → In (y ∷ z ∷ l) e
        swap_fro e (inl x) = inr (P.fro e (inl x))
        swap_fro e (inr (inl x)) = inl x
        swap_fro e (inr (inr x)) = inr (P.fro e (inr x))

        apart_node : (e : Node) → In (y ∷ P.rest) e → Share P.node.square e.square → ⊥
        apart_node e (inl x) v = sp.0 P.node (P.fro P.node (inl refl)) (share_sym _ _ (subst (λ (g : Node). Share P.node.square g.square) x v))
        apart_node e (inr x) v = P.spread.0 e x v

        stay_best : (Outranks k y.mark P.node.mark → ⊥) → (e : Node) → In (y ∷ P.rest) e → Outranks k e.mark P.node.mark → ⊥
        stay_best not e (inl x) v = not (subst (λ (g : Node). Outranks k g.mark P.node.mark) x v)
        stay_best not e (inr x) v = P.best e x v

        stay : (Outranks k y.mark P.node.mark → ⊥) → Pulled k (y ∷ z ∷ l)
        stay not =
            record {
              node = P.node;
              rest = y ∷ P.rest;
              to = swap_to;
              fro = swap_fro;
              spread = (apart_node, (λ e p. sp.0 e (P.fro e (inr p)), P.spread.1));
              best = stay_best not;
              same = let e = P.same in omega arith;
            }

        cases : Outranks k y.mark P.node.mark ⊎ (y.mark ≡ P.node.mark) ⊎ Outranks k P.node.mark y.mark → Pulled k (y ∷ z ∷ l)
        cases (inl o) = record { node = y; rest = z ∷ l; to = λ e p. p; fro = λ e p. p; spread = sp; best = λ e p. up o e (P.to e p); same = refl }
        cases (inr (inl o)) = stay (irrefl_eq k y.mark P.node.mark o)
        cases (inr (inr o)) = stay (λ v. asym k L y.mark P.node.mark v o)

-- a search with nothing to look at
pub idle : (k : Kind) (s : Square) (t : Tree) (w : Window) (n : ℕ) → 0 < n → ((e : Node) → Part s t e.square (tree e) → Touches e.square w → ⊥) → Search k s t w n [] [] []
idle k s t w n pos f = (
  record { done_parts = λ e p. absurd p; wait_parts = λ e p. absurd p; spread = tt; fell = tt; above = λ e g p. absurd p; cover = λ e p v. absurd (f e p v) },
  record { listed = λ x p. absurd p; all = λ e p. absurd p; falls = tt; last = λ z e p. absurd p; most = omega arith },
)
