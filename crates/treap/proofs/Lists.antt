-- Elements of lists, lists with no element twice, and four lists in a row, one for each quadrant.
use Rattle.std.proofs.Common.{◌≡◌, ℕ, suc, ◌≤◌, ◌⊎◌, List, [], ◌∷◌, ◌++◌, map, length, sym, refl, ap, ◌∙◌, subst, inl, inr, arith}
use Rattle.treap.specs.Trees.{Quadrant, tl, tr, bl, br, Tree, pick, numbers, In, Apart}

pub in? : {A : Type 0} → ((x y : A) → Dec (x ≡ y)) → (l : List A) (x : A) → In l x ⊎ (In l x → ⊥)
in? eq [] x = inr (λ h. h)
in? eq (y ∷ l) x =
    elim (eq x y) [
      | yes e ↦ inl (inl e)
      | no e ↦ elim (in? eq l x) [ inl h ↦ inl (inr h) | inr h ↦ inr (elim [ inl p ↦ e p | inr p ↦ h p ]) ]
    ]

pub in_first : {A : Type 0} (l r : List A) (x : A) → In l x → In (l ++ r) x
in_first [] r x h = absurd h
in_first (y ∷ l) r x h = grind (arith, in_first l r x)

pub in_last : {A : Type 0} (l r : List A) (x : A) → In r x → In (l ++ r) x
in_last [] r x h = h
in_last (y ∷ l) r x h = inr (in_last l r x h)

pub in_append : {A : Type 0} (l r : List A) (x : A) → In (l ++ r) x → In l x ⊎ In r x
in_append [] r x h = inr h
in_append (y ∷ l) r x h = grind (arith, in_append l r x)

-- the list without one element
pub without : {A : Type 0} (l : List A) (x : A) → In l x → List A
without [] x h = []
without (y ∷ l) x (inl e) = l
without (y ∷ l) x (inr h) = y ∷ without l x h

length_without : {A : Type 0} (l : List A) (x : A) (h : In l x) → length l ≡ suc (length (without l x h))
unfolding without
length_without [] x h = absurd h
length_without (y ∷ l) x (inl e) = refl
length_without (y ∷ l) x (inr h) = ap suc (length_without l x h)

in_without : {A : Type 0} (l : List A) (x : A) (h : In l x) (z : A) → In l z → (z ≡ x → ⊥) → In (without l x h) z
unfolding without
in_without [] x h z g ne = absurd h
in_without (y ∷ l) x (inl e) z g ne = elim g [ inl p ↦ absurd (ne (p ∙ sym e)) | inr p ↦ p ]
in_without (y ∷ l) x (inr h) z g ne = elim g [ inl p ↦ inl p | inr p ↦ inr (in_without l x h z p ne) ]

-- a list with no element twice is no longer than a list that has all its elements
pub apart_shorter : {A : Type 0} (l r : List A) → Apart l → ((x : A) → In l x → In r x) → length l ≤ length r
apart_shorter [] r h f = omega arith
apart_shorter {A} (x ∷ l) r h f =
    let p : In r x = f x (inl refl) in
    let e = length_without r x p in
    let le : length l ≤ length (without r x p) =
    apart_shorter l (without r x p) h.1 (λ z g. in_without r x p z (f z (inr g)) (λ e. h.0 (subst (λ (y : A). In l y) e g))) in
    omega arith

apart_left : {A : Type 0} (l r : List A) → Apart (l ++ r) → Apart l
apart_left [] r h = tt
apart_left (x ∷ l) r h = (λ g. h.0 (in_first l r x g), apart_left l r h.1)

apart_right : {A : Type 0} (l r : List A) → Apart (l ++ r) → Apart r
apart_right [] r h = h
apart_right (x ∷ l) r h = apart_right l r h.1

pub apart_parts : {A : Type 0} (l r : List A) → Apart (l ++ r) → Apart l × Apart r
apart_parts l r h = (apart_left l r h, apart_right l r h)

pub apart_not_both : {A : Type 0} (l r : List A) → Apart (l ++ r) → (x : A) → In l x → In r x → ⊥
apart_not_both [] r h x p q = p
apart_not_both {A} (y ∷ l) r h x (inl e) q = h.0 (in_last l r y (subst (λ (z : A). In r z) e q))
apart_not_both (y ∷ l) r h x (inr p) q = apart_not_both l r h.1 x p q

pub apart_joined : {A : Type 0} (l r : List A) → Apart l → Apart r → ((x : A) → In l x → In r x → ⊥) → Apart (l ++ r)
apart_joined [] r hl hr no_both = hr
apart_joined (x ∷ l) r hl hr no_both = (
  λ p. elim (in_append l r x p) [ inl q ↦ hl.0 q | inr q ↦ no_both x (inl refl) q ],
  apart_joined l r hl.1 hr (λ z p. no_both z (inr p)),
)

pub in_both : {A : Type 0} (l r v z : List A) → ((x : A) → In v x → In l x) → ((x : A) → In z x → In r x) → (x : A) → In (v ++ z) x → In (l ++ r) x
in_both l r v z f g x h = elim (in_append v z x h) [ inl p ↦ in_first l r x (f x p) | inr p ↦ in_last l r x (g x p) ]

pub apart_under : {A : Type 0} (l r v z : List A) → Apart (l ++ r) → Apart v → Apart z → ((x : A) → In v x → In l x) → ((x : A) → In z x → In r x) → Apart (v ++ z)
apart_under l r v z h hv hz f g = apart_joined v z hv hz (λ x p q. apart_not_both l r h x (f x p) (g x q))

-- each element stands so to all that come after it
abbrev pub Pairs : {A : Type 0} → (A → A → Type 0) → List A → Type 0
Pairs R [] = Unit {0}
Pairs {A} R (x ∷ l) = ((z : A) → In l z → R x z) × Pairs R l

module _ {A B : Type 0} (f : A → B) where
  pub in_map : (l : List A) (x : A) → In l x → In (map f l) (f x)
  in_map (y ∷ l) x (inl e) = inl (ap f e)
  in_map (y ∷ l) x (inr h) = inr (in_map l x h)
  in_map [] x h = absurd h

  pub from_map : (l : List A) (y : B) → In (map f l) y → (x : A) × In l x × (y ≡ f x)
  from_map [] y h = absurd h
  from_map (x ∷ l) y (inl e) = (x, inl refl, e)
  from_map (x ∷ l) y (inr h) = let r = from_map l y h in (r.0, inr r.1, r.2)

  pub apart_map : (R : A → A → Type 0) (l : List A) → Pairs R l → ((x y : A) → In l x → In l y → R x y → f x ≡ f y → ⊥) → Apart (map f l)
  apart_map R [] h ne = tt
  apart_map R (x ∷ l) h ne = (
    λ p. let r = from_map l (f x) p in ne x r.0 (inl refl) (inr r.1) (h.0 r.0 r.1) r.2,
    apart_map R l h.1 (λ y z p q. ne y z (inr p) (inr q)),
  )

ruleset in_parts = (in_first, in_last)

module _ {A : Type 0} (f : Quadrant → List A) where
  abbrev pub four : List A
  four = f tl ++ (f tr ++ (f bl ++ f br))

  pub in_four : (q : Quadrant) (x : A) → In (f q) x → In four x
  in_four tl x h = in_first _ _ x h
  in_four tr x h = in_last (f tl) _ x (in_first _ _ x h)
  in_four bl x h = in_last (f tl) _ x (in_last (f tr) _ x (in_first _ _ x h))
  in_four br x h = in_last (f tl) _ x (in_last (f tr) _ x (in_last (f bl) _ x h))

  pub from_four : (x : A) → In four x → (q : Quadrant) × In (f q) x
  from_four x h =
      elim (in_append (f tl) _ x h) [
        | inl p ↦ (tl, p)
        | inr p ↦ elim (in_append (f tr) _ x p) [
          | inl q ↦ (tr, q)
          | inr q ↦ elim (in_append (f bl) _ x q) [ inl r ↦ (bl, r) | inr r ↦ (br, r) ]
        ]
      ]

  pub each_apart : Apart four → (q : Quadrant) → Apart (f q)
  each_apart h tl = apart_left (f tl) _ h
  each_apart h tr = apart_left (f tr) _ (apart_right (f tl) _ h)
  each_apart h bl = apart_left (f bl) _ (apart_right (f tr) _ (apart_right (f tl) _ h))
  each_apart h br = apart_right (f bl) _ (apart_right (f tr) _ (apart_right (f tl) _ h))

  -- an element stands in one of the four
  pub in_one : Apart four → (p q : Quadrant) (x : A) → In (f p) x → In (f q) x → p ≡ q
  in_one h p q x = go p q
    where
      no_tl : In (f tl) x → In (f tr ++ (f bl ++ f br)) x → ⊥
      no_tl = apart_not_both (f tl) _ h x

      no_tr : In (f tr) x → In (f bl ++ f br) x → ⊥
      no_tr = apart_not_both (f tr) _ (apart_right (f tl) _ h) x

      no_bl : In (f bl) x → In (f br) x → ⊥
      no_bl = apart_not_both (f bl) _ (apart_right (f tr) _ (apart_right (f tl) _ h)) x

      go : (p q : Quadrant) → In (f p) x → In (f q) x → p ≡ q
      go tl tl u v = refl
      go tr tr u v = refl
      go bl bl u v = refl
      go br br u v = refl
      go _ _ u v = absurd (search (no_tl, no_tr, no_bl, in_parts))

  four_apart : ((q : Quadrant) → Apart (f q)) → ((p q : Quadrant) (x : A) → In (f p) x → In (f q) x → p ≡ q) → Apart four
  four_apart each one =
      apart_joined (f tl) _ (each tl)
      (apart_joined (f tr) _ (each tr) (apart_joined (f bl) (f br) (each bl) (each br) (λ x u v. grind (arith, one bl br x u v)))
      (λ x u v. grind (arith, one tr bl x u, one tr br x u, in_append (f bl) (f br) x v)))
      (λ x u v. grind (arith, one tl tr x u, one tl bl x u, one tl br x u, in_append (f tr) (f bl ++ f br) x v, in_append (f bl) (f br) x))

-- four lists within four others
module _ {A : Type 0} (f g : Quadrant → List A) (within : (q : Quadrant) (x : A) → In (g q) x → In (f q) x) where
  pub four_in : (x : A) → In (four g) x → In (four f) x
  four_in x h = let r = from_four g x h in in_four f r.0 x (within r.0 x r.1)

  pub four_under : Apart (four f) → ((q : Quadrant) → Apart (g q)) → Apart (four g)
  four_under h each = four_apart g each (λ p q x u v. in_one f h p q x (within p x u) (within q x v))

-- one proof for each quadrant
pub by_quadrant : (P : Quadrant → Type 0) → P tl → P tr → P bl → P br → (q : Quadrant) → P q
by_quadrant P a b c d tl = a
by_quadrant P a b c d tr = b
by_quadrant P a b c d bl = c
by_quadrant P a b c d br = d

-- the numbers of the boxes in a quadrant
abbrev pub quarter : Tree → Tree → Tree → Tree → Quadrant → List ℕ
quarter a b c d q = numbers (pick a b c d q)
