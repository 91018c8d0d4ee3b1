-- The best of the boxes right below a box is the best of two bests.
use Rattle.std.proofs.Common.{◌≡◌, ℕ, ◌+◌, ◌<◌, ◌⊎◌, List, [], ◌∷◌, ◌++◌, map, length, take, get_or, Some, None, Option, sym, refl, ap, ◌∙◌, subst, inl, inr, arith}
use mathlib.Core.List.{map-append}
use Rattle.std.proofs.lemmas.List.{take_more}
use Rattle.grade.specs.Kind.{Kind, Laws}
use Rattle.treap.specs.Spots.{Spot, Outranks}
use Rattle.treap.specs.Trees.{Quadrant, tl, tr, bl, br, In}
use Rattle.boxtree.specs.declared.quadrant.Quadrant as code
use Rattle.boxtree.specs.declared.quadrant.Quadrant.TheVariants.{TopLeft, TopRight, BottomLeft, BottomRight}
use Rattle.boxtree.specs.Quadrants.{quadrant_of}
use Rattle.treap.proofs.Lists.{in_append}
use Rattle.treap.proofs.Ranks.{irrefl, trans, tri}
use Rattle.plan.specs.Places.{Cell, link}
use Rattle.plan.specs.Children.{Choice, Chosen, ChildAt, Better, StaysAbove, Best}

some_is : {A : Type 0} (x y : A) → Some x ≡ Some y → x ≡ y
some_is x y e = cc

not_none : {A : Type 0} (x : A) → Some x ≡ None → ⊥
not_none x e = let z : ◌≡◌ {A = ℕ} 0 1 = cc in omega arith

-- the best of the boxes in some quadrants
abbrev pub Leads : Kind → (ℕ → Cell) → Cell → List Quadrant → Option Choice → Type 0
Leads k at p qs None = (q : Quadrant) → In qs q → link q p ≡ None
Leads k at p qs (Some c) = Chosen at p c × ((q : Quadrant) → In qs q → StaysAbove k at p c q)

module _ (k : Kind) (L : Laws k) (at : ℕ → Cell) (p : Cell) where
  leads_one : (q : Quadrant) (o : Option Choice) → ChildAt at p q o → Leads k at p (q ∷ []) o
  leads_one q None h = λ x e. elim e [ inl i ↦ ap (λ (y : Quadrant). link y p) i ∙ h | inr i ↦ absurd i ]
  leads_one q (Some c) h = (h.1, λ x e. elim e [ inl i ↦ alone x i | inr i ↦ absurd i ])
    where
      alone : (x : Quadrant) → x ≡ q → StaysAbove k at p c x
      alone x i j l o =
          let same : j ≡ c.place = some_is j c.place (sym l ∙ ap (λ (y : Quadrant). link y p) (i ∙ sym h.0) ∙ h.1.linked) in
          irrefl k c.mark (subst (λ (m : Spot). Outranks k m c.mark) (ap (λ (y : ℕ). (at y).mark) same ∙ h.1.marked) o)

  leads_both : (qs rs : List Quadrant) (a b r : Option Choice) → Leads k at p qs a → Leads k at p rs b → Better k a b r → Leads k at p (qs ++ rs) r
  leads_both qs rs None b r ha hb e = subst (Leads k at p (qs ++ rs)) (sym e) (go b hb)
    where
      go : (b : Option Choice) → Leads k at p rs b → Leads k at p (qs ++ rs) b
      go None h = λ q i. elim (in_append qs rs q i) [ inl v ↦ ha q v | inr v ↦ h q v ]
      go (Some y) h = (h.0, λ q i. elim (in_append qs rs q i) [ inl v ↦ (λ j l. absurd (not_none j (sym l ∙ ha q v))) | inr v ↦ h.1 q v ])
  leads_both qs rs (Some x) None r ha hb e =
      subst (Leads k at p (qs ++ rs)) (sym e)
      (ha.0, λ q i. elim (in_append qs rs q i) [ inl v ↦ ha.1 q v | inr v ↦ (λ j l. absurd (not_none j (sym l ∙ hb q v))) ])
  leads_both qs rs (Some x) (Some y) r ha hb (inl e) =
      subst (Leads k at p (qs ++ rs)) (sym e.0)
      (hb.0, λ q i. elim (in_append qs rs q i) [ inl v ↦ (λ j l o. ha.1 q v j l (trans k L (at j).mark y.mark x.mark o e.1)) | inr v ↦ hb.1 q v ])
  leads_both qs rs (Some x) (Some y) r ha hb (inr e) =
      subst (Leads k at p (qs ++ rs)) (sym e.0)
      (ha.0, λ q i. elim (in_append qs rs q i) [ inl v ↦ ha.1 q v | inr v ↦ (λ j l o. over (at j).mark o (hb.1 q v j l) (tri k L (at j).mark y.mark)) ])
    where
      over : (m : Spot) → Outranks k m x.mark → (Outranks k m y.mark → ⊥) → Outranks k m y.mark ⊎ (m ≡ y.mark) ⊎ Outranks k y.mark m → ⊥
      over m o not-y (inl v) = not-y v
      over m o not-y (inr (inl v)) = e.1 (subst (λ (z : Spot). Outranks k z x.mark) v o)
      over m o not-y (inr (inr v)) = e.1 (trans k L y.mark m x.mark v o)

  -- one quadrant more
  pub leads_more : (qs : List code.Quadrant) (i : ℕ) (d : code.Quadrant) (a b r : Option Choice)
      → i < length qs
      → Leads k at p (map quadrant_of (take i qs)) a
      → ChildAt at p (quadrant_of (get_or qs i d)) b
      → Better k a b r
      → Leads k at p (map quadrant_of (take (i + 1) qs)) r
  leads_more qs i d a b r low h c e =
      subst (λ (x : List Quadrant). Leads k at p x r)
      (sym (ap (map quadrant_of) (take_more qs i d low) ∙ map-append quadrant_of (take i qs) (get_or qs i d ∷ [])))
      (leads_both (map quadrant_of (take i qs)) (quadrant_of (get_or qs i d) ∷ []) a b r h (leads_one (quadrant_of (get_or qs i d)) b c) e)

  everywhere : (q : Quadrant) → In (tl ∷ tr ∷ bl ∷ br ∷ []) q
  everywhere tl = inl refl
  everywhere tr = inr (inl refl)
  everywhere bl = inr (inr (inl refl))
  everywhere br = inr (inr (inr (inl refl)))

  -- all quadrants
  pub leads_all : (i : ℕ) (r : Option Choice) → i ≡ 4 → Leads k at p (map quadrant_of (take i (TopLeft ∷ TopRight ∷ BottomLeft ∷ BottomRight ∷ []))) r → Best k at p r
  leads_all i r e h = go r (subst (λ (n : ℕ). Leads k at p (map quadrant_of (take n (TopLeft ∷ TopRight ∷ BottomLeft ∷ BottomRight ∷ []))) r) e h)
    where
      go : (r : Option Choice) → Leads k at p (tl ∷ tr ∷ bl ∷ br ∷ []) r → Best k at p r
      go None h = λ q. h q (everywhere q)
      go (Some c) h = (h.0, λ q. h.1 q (everywhere q))
