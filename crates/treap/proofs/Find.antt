-- Boxes by their numbers.
use Rattle.std.proofs.Common.{◌≡◌, ℕ, zero, suc, Bool, true, false, cond, eqb, ◌⊎◌, ◌++◌, Some, None, sym, refl, ap, ◌∙◌, subst, inl, inr}
use native.Mathlib.Decide.{ℕ_discrete}
use Rattle.std.proofs.lemmas.Bool.{false≢true, eqb-true, eq-eqb, ne_eqb}
use Rattle.grade.specs.Kind.{Kind}
use Rattle.treap.specs.Spots.{Spot}
use Rattle.treap.specs.Trees.{Quadrant, tl, tr, bl, br, Square, quadrant, Tree, none, box, pick, number, or, sub, find, numbers, Shows, Ordered, In, Apart}
use Rattle.treap.specs.Draws.{Part, whole, deeper}
use Rattle.treap.proofs.Lists.{in?, by_quadrant, in_four, from_four, each_apart, in_one, quarter}
use Rattle.treap.proofs.Needed.{part_lawful}
use Rattle.treap.proofs.Parts.{Boxed, no_part, part_of_part, part_first, part_shown, part_numbers}

pub box_none : {i : ℕ} {m : Spot} {a b c d : Tree} → box i m a b c d ≡ none → ⊥
box_none e = cc

pub or_some : (t u : Tree) (n : ℕ) → number t ≡ Some n → or t u ≡ t
or_some none u n e = cc
or_some (box m s a b c d) u n e = refl

pub or_right : (t : Tree) → or t none ≡ t
or_right none = refl
or_right (box m s a b c d) = refl

pub number_none : (t : Tree) → number t ≡ None → t ≡ none
number_none none e = refl
number_none (box m s a b c d) e = cc

pub no_number : (t : Tree) (n : ℕ) → t ≡ none → number t ≡ Some n → ⊥
no_number t n e h = cc

pub or_none : (t u : Tree) → or t u ≡ none → (t ≡ none) × (u ≡ none)
or_none none u e = (refl, e)
or_none (box j x a b c d) u e = absurd (box_none e)

-- the first of four trees that has a box
module _ (f : Quadrant → Tree) where
  abbrev pub chosen : Tree
  chosen = or (f tl) (or (f tr) (or (f bl) (f br)))

  -- is the one that has
  pub chosen_is : (q : Quadrant) → ((p : Quadrant) → (p ≡ q → ⊥) → f p ≡ none) → chosen ≡ f q
  chosen_is tl h = rw (h tr (λ e. cc), h bl (λ e. cc), h br (λ e. cc)) (or_right (f tl))
  chosen_is tr h = rw (h tl (λ e. cc), h bl (λ e. cc), h br (λ e. cc)) (or_right (f tr))
  chosen_is bl h = rw (h tl (λ e. cc), h tr (λ e. cc), h br (λ e. cc)) (or_right (f bl))
  chosen_is br h = rw (h tl (λ e. cc), h tr (λ e. cc), h bl (λ e. cc))

boxed : (t : Tree) (n : ℕ) → number t ≡ Some n → Boxed t
boxed none n e = cc
boxed (box i m a b c d) n e = tt

root_in : (t : Tree) (n : ℕ) → number t ≡ Some n → In (numbers t) n
root_in none n e = cc
root_in (box i m a b c d) n e = inl (cc)

-- a number that no box has finds nothing
pub find_miss : (n : ℕ) (t : Tree) → (In (numbers t) n → ⊥) → find n t ≡ none
find_miss n none h = refl
find_miss n (box i m a b c d) h =
    let no : (q : Quadrant) → In (numbers (pick a b c d q)) n → ⊥ = λ q p. h (inr (in_four (quarter a b c d) q n p)) in
    rw (ne_eqb n i (λ e. h (inl e)), find_miss n a (no tl), find_miss n b (no tr), find_miss n c (no bl), find_miss n d (no br))

-- what is found is a part of the tree, and has the number
abbrev pub Found : Square → ℕ → Tree → Tree → Type 0
Found s n t u = (u ≡ none) ⊎ ((r : Square) × Part s t r u × (number u ≡ Some n))

found_or : (s : Square) (n : ℕ) (t u v : Tree) → Found s n t u → Found s n t v → Found s n t (or u v)
found_or s n t u v (inl e) y = subst (λ (z : Tree). Found s n t (or z v)) (sym e) y
found_or s n t u v (inr x) y = subst (λ (z : Tree). Found s n t z) (sym (or_some u v n x.2)) (inr x)

found_box : (s : Square) (n i : ℕ) (m : Spot) (a b c d : Tree) → ((q : Quadrant) → Found (quadrant q s) n (pick a b c d q) (find n (pick a b c d q))) → (v : Bool) → eqb n i ≡ v → Found s n (box i m a b c d) (cond v (box i m a b c d) (chosen (λ q. find n (pick a b c d q))))
found_box s n i m a b c d f true e = inr (s, whole, ap Some (sym (eqb-true n i e)))
found_box s n i m a b c d f false e = found_or s n _ (find n a) _ (at tl) (found_or s n _ (find n b) _ (at tr) (found_or s n _ (find n c) (find n d) (at bl) (at br)))
  where
    at : (q : Quadrant) → Found s n (box i m a b c d) (find n (pick a b c d q))
    at q = elim (f q) [ inl e ↦ inl e | inr x ↦ inr (x.0, part_of_part (deeper whole q) x.1, x.2) ]

pub found : (s : Square) (n : ℕ) (t : Tree) → Found s n t (find n t)
found s n none = inl refl
found s n (box i m a b c d) =
    found_box s n i m a b c d
    (by_quadrant (λ q. Found (quadrant q s) n (pick a b c d q) (find n (pick a b c d q))) (found (quadrant tl s) n a) (found (quadrant tr s) n b) (found (quadrant bl s) n c) (found (quadrant br s) n d))
    (eqb n i) refl

module _ (n i : ℕ) (m : Spot) (a b c d : Tree) (h : Apart (numbers (box i m a b c d))) where
  -- where a number is in a quadrant, the others do not find it
  find_apart : (q : Quadrant) → In (numbers (pick a b c d q)) n → (p : Quadrant) → (p ≡ q → ⊥) → find n (pick a b c d p) ≡ none
  find_apart q g p ne = find_miss n (pick a b c d p) (λ v. ne (in_one (quarter a b c d) h.1 p q n v g))

  -- three of the quadrants do not find a number
  pub find_once : (q : Quadrant) × ((p : Quadrant) → (p ≡ q → ⊥) → find n (pick a b c d p) ≡ none)
  find_once =
      elim (in? ℕ_discrete (numbers a ++ (numbers b ++ (numbers c ++ numbers d))) n) [
        | inl g ↦ let r = from_four (quarter a b c d) n g in (r.0, find_apart r.0 r.1)
        | inr g ↦ (tl, λ p ne. find_miss n (pick a b c d p) (λ v. g (in_four (quarter a b c d) p n v)))
      ]

  -- a number of a quadrant is found there
  in_quadrant : (q : Quadrant) → In (numbers (pick a b c d q)) n → find n (box i m a b c d) ≡ find n (pick a b c d q)
  in_quadrant q g =
      rw
      (ne_eqb n i (λ e. h.0 (subst (λ (j : ℕ). In (numbers a ++ (numbers b ++ (numbers c ++ numbers d))) j) e (in_four (quarter a b c d) q n g))))
      (chosen_is (λ p. find n (pick a b c d p)) q (find_apart q g))

-- the number of a part finds it
abbrev Finds : Square → Tree → Type 0
Finds s t = (n : ℕ) (r : Square) (u : Tree) → Part s t r u → Apart (numbers t) → number u ≡ Some n → find n t ≡ u

pub find_part : (s : Square) (t : Tree) → Finds s t
find_part s none n r u p h e = absurd (no_part p (boxed u n e))
find_part s (box i m a b c d) n r u p h e =
    let f : (q : Quadrant) → Finds (quadrant q s) (pick a b c d q) =
    by_quadrant _ (find_part (quadrant tl s) a) (find_part (quadrant tr s) b) (find_part (quadrant bl s) c) (find_part (quadrant br s) d) in
    elim (part_first p) [
      | inl x ↦ let same : n ≡ i = cc in rw (eq-eqb n i same) (sym x.1)
      | inr x ↦ in_quadrant n i m a b c d h x.0 (part_numbers x.1 n (root_in u n e)) ∙ f x.0 n r u x.1 (each_apart (quarter a b c d) h.1 x.0) e
    ]

somewhere : Square
somewhere = record { level = 0; top = 0; left = 0 }

-- where the first of four trees that has a box is none, each is none
chosen_none : (f : Quadrant → Tree) → chosen f ≡ none → (q : Quadrant) → f q ≡ none
chosen_none f e tl = (or_none (f tl) _ e).0
chosen_none f e tr = (or_none (f tr) _ (or_none (f tl) _ e).1).0
chosen_none f e bl = (or_none (f bl) _ (or_none (f tr) _ (or_none (f tl) _ e).1).1).0
chosen_none f e br = (or_none (f bl) _ (or_none (f tr) _ (or_none (f tl) _ e).1).1).1

-- a number that a box has finds one
abbrev Hits : ℕ → Tree → Type 0
Hits n t = In (numbers t) n → find n t ≡ none → ⊥

hits_box : (n i : ℕ) (m : Spot) (a b c d : Tree) → ((q : Quadrant) → Hits n (pick a b c d q)) → In (numbers (box i m a b c d)) n → (v : Bool) → eqb n i ≡ v → cond v (box i m a b c d) (chosen (λ q. find n (pick a b c d q))) ≡ none → ⊥
hits_box n i m a b c d each h true f e = box_none e
hits_box n i m a b c d each (inl x) false f e = false≢true (sym f ∙ eq-eqb n i x)
hits_box n i m a b c d each (inr x) false f e =
    let r = from_four (quarter a b c d) n x in
    each r.0 r.1 (chosen_none (λ q. find n (pick a b c d q)) e r.0)

hit : (n : ℕ) (t : Tree) → Hits n t
hit n none h e = h
hit n (box i m a b c d) h e =
    hits_box n i m a b c d (by_quadrant (λ q. Hits n (pick a b c d q)) (hit n a) (hit n b) (hit n c) (hit n d)) h (eqb n i) refl e

pub find_hit : (n : ℕ) (t : Tree) → In (numbers t) n → number (find n t) ≡ Some n
find_hit n t h = go (found somewhere n t)
  where
    go : Found somewhere n t (find n t) → number (find n t) ≡ Some n
    go (inl e) = absurd (hit n t h e)
    go (inr x) = x.2

pub find_root : (n : ℕ) (t : Tree) → number t ≡ Some n → find n t ≡ t
find_root n none h = refl
find_root n (box i m a b c d) h = let e : n ≡ i = cc in rw (eq-eqb n i e)

-- the number of a box right below the box found finds it
below_found : (s r : Square) (m q : ℕ) (t u : Tree) → Part s t r u → Apart (numbers t) → number (sub q u) ≡ Some m → find m t ≡ sub q u
below_found s r m q t none p h e = cc
below_found s r m zero t (box i x a b c d) p h e = find_part s t m _ a (deeper p tl) h e
below_found s r m (suc zero) t (box i x a b c d) p h e = find_part s t m _ b (deeper p tr) h e
below_found s r m (suc (suc zero)) t (box i x a b c d) p h e = find_part s t m _ c (deeper p bl) h e
below_found s r m (suc (suc (suc zero))) t (box i x a b c d) p h e = find_part s t m _ d (deeper p br) h e
below_found s r m (suc (suc (suc (suc q)))) t (box i x a b c d) p h e = cc

pub find_sub : (n m q : ℕ) (t : Tree) → Apart (numbers t) → number (sub q (find n t)) ≡ Some m → find m t ≡ sub q (find n t)
find_sub n m q t h e = elim (found somewhere n t) [ inl x ↦ cc | inr x ↦ below_found somewhere x.0 m q t (find n t) x.1 h e ]

pub find_shown : (n : ℕ) (t : Tree) (x : Spot) → Shows (find n t) x → Shows t x
find_shown n t x h = elim (found somewhere n t) [ inl e ↦ absurd (subst (λ (u : Tree). Shows u x) e h) | inr y ↦ part_shown y.1 x h ]

-- what is found is ordered, in some square
pub ordered_find : (k : Kind) (s : Square) (n : ℕ) (t : Tree) → Ordered k s t → (r : Square) × Ordered k r (find n t)
ordered_find k s n t h =
    elim (found s n t) [ inl e ↦ (s, subst (λ (u : Tree). Ordered k s u) (sym e) tt) | inr x ↦ (x.0, part_lawful k x.1 h) ]
