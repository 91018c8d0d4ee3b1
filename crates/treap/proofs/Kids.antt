-- The boxes right below a box, gathered quadrant by quadrant: what a loop over the quadrants cites.
use Rattle.std.proofs.Common.{◌≡◌, ◌+◌, ◌<◌, ◌⊎◌, List, [], ◌∷◌, sym, refl, ap, ◌∙◌, subst, inl, inr, arith}
use native.Mathlib.Decide.{dec_lt}
use Rattle.treap.specs.Trees.{Quadrant, tl, tr, bl, br, index, Square, Within, quadrant, none}
use Rattle.treap.specs.Draws.{Window, Touches}
use Rattle.treap.specs.Searches.{Node, tree, child, KidsBelow}
use Rattle.treap.proofs.Shown.{one_quadrant}
use Rattle.treap.proofs.Find.{box_none}
use Rattle.treap.proofs.Walks.{Kids, node_eq}

index_below : (q : Quadrant) → index q < 4
index_below tl = omega arith
index_below q = omega arith

index_same : (p q : Quadrant) → index p ≡ index q → p ≡ q
index_same tl tl e = refl
index_same tr tr e = refl
index_same bl bl e = refl
index_same br br e = refl
index_same _ _ e = absurd (omega arith)

pub kids_none : (w : Window) (f : Node) → KidsBelow w f 0 []
kids_none w f = record { are = λ e p. absurd p; all = λ e q lt. absurd (omega arith); spread = tt }

pub kids_all : (w : Window) (f : Node) (l : List Node) → KidsBelow w f 4 l → Kids w f l
kids_all w f l h =
    record { are = λ e p. let r = h.are e p in (r.0, r.1, r.2, r.3); all = λ e q. h.all e q (index_below q); spread = h.spread }

split_index : (p q : Quadrant) → index p < index q + 1 → (index p < index q) ⊎ (p ≡ q)
split_index p q lt = elim (dec_lt (index p) (index q)) [ yes a ↦ inl a | no a ↦ inr (index_same p q (omega arith)) ]

-- nothing to push at the quadrant q
pub kids_skip : (w : Window) (f : Node) (l : List Node) (q : Quadrant) → KidsBelow w f (index q) l → (child f q ≡ none) ⊎ (Touches (quadrant q f.square) w → ⊥) → KidsBelow w f (index q + 1) l
kids_skip w f l q h no_kid =
    record {
      are = λ e p. let r = h.are e p in let lt = r.4 in (r.0, r.1, r.2, r.3, omega arith);
      all = λ e p lt a b v. elim (split_index p q lt) [
        | inl lt ↦ h.all e p lt a b v
        | inr x ↦ absurd (elim no_kid [
          | inl y ↦ box_none (b ∙ ap (child f) x ∙ y)
          | inr y ↦ y (subst (λ (z : Square). Touches z w) (a ∙ ap (λ (o : Quadrant). quadrant o f.square) x) v)
        ])
      ];
      spread = h.spread;
    }

-- the box at the quadrant q is pushed
pub kids_push : (w : Window) (f : Node) (l : List Node) (q : Quadrant) → KidsBelow w f (index q) l → (e : Node) → e.square ≡ quadrant q f.square → tree e ≡ child f q → Touches e.square w → KidsBelow w f (index q + 1) (e ∷ l)
kids_push w f l q h e a b v =
    record {
      are = λ g p. elim p [
        | inl x ↦ (q, ap (λ (y : Node). y.square) x ∙ a, ap tree x ∙ b, subst (λ (y : Node). Touches y.square w) (sym x) v, omega arith)
        | inr x ↦ let r = h.are g x in let lt = r.4 in (r.0, r.1, r.2, r.3, omega arith)
      ];
      all = λ g p lt x y z. elim (split_index p q lt) [
        | inl lt ↦ inr (h.all g p lt x y z)
        | inr i ↦ inl (node_eq g e (x ∙ ap (λ (o : Quadrant). quadrant o f.square) i ∙ sym a) (y ∙ ap (child f) i ∙ sym b))
      ];
      spread = (
        λ g p s. let r = h.are g p in
            let lt = r.4 in
            let same : q ≡ r.0 =
            one_quadrant f.square q r.0 s.row s.col (subst (λ (x : Square). Within x s.row s.col) a s.first)
            (subst (λ (x : Square). Within x s.row s.col) r.1 s.second) in
            omega (arith, ap index same),
        h.spread,
      );
    }
