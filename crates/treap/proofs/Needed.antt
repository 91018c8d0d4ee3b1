-- Which boxes a draw has to open: the wanted ones are enough, and each set that is enough has them all.
use Rattle.std.proofs.Common.{◌≡◌, ℕ, ◌<◌, ◌≤◌, ◌⊎◌, List, [], ◌∷◌, length, sym, subst, inl, inr, arith}
use native.Mathlib.Decide.{ℕ_discrete, dec_lt}
use Rattle.grade.specs.Kind.{Kind, Laws}
use Rattle.treap.specs.Spots.{Spot, Outranks}
use Rattle.treap.specs.Trees.{Quadrant, Square, quadrant, Tree, none, box, pick, Hangs, Ordered, In}
use Rattle.treap.specs.Draws.{Window, Touches, LastOver, Part, whole, deeper, Settled, Justifies}
use Rattle.treap.proofs.Ranks.{irrefl_eq, trans, asym, tri}
use Rattle.treap.proofs.Shown.{within_quadrant, hangs, lawful_quadrant}
use Rattle.treap.proofs.Lists.{in?}

-- the list has a last mark, and m is that or outranks it
abbrev pub Reaches : Kind → List Spot → Spot → Type 0
Reaches k [] m = ⊥
Reaches k (x ∷ []) m = (m ≡ x) ⊎ Outranks k m x
Reaches k (x ∷ y ∷ l) m = Reaches k (y ∷ l) m

-- the box u touches the window, and, if as many are listed as asked for, its mark is the last listed or outranks it
abbrev pub Wanted : Kind → Window → ℕ → List Spot → Square → Tree → Type 0
Wanted k w n l r none = ⊥
Wanted k w n l r (box i m a b c d) = Touches r w × ((length l < n) ⊎ Reaches k l m)

abbrev pub Numbered : List ℕ → Tree → Type 0
Numbered S none = ⊥
Numbered S (box i m a b c d) = In S i

-- each wanted box is of each set that justifies the list
abbrev pub WantedIsNeeded : Type 0
WantedIsNeeded =
    (k : Kind)
    → Laws k
    → (s : Square) (t : Tree)
    → Ordered k s t
    → (w : Window) (n : ℕ) (l : List Spot)
    → (S : List ℕ)
    → Justifies k s t w n l S
    → (r : Square) (u : Tree)
    → Part s t r u
    → Wanted k w n l r u
    → Numbered S u

-- and the wanted boxes are enough
abbrev pub WantedIsEnough : Type 0
WantedIsEnough =
    (k : Kind)
    → Laws k
    → (s : Square) (t : Tree)
    → (w : Window) (n : ℕ) (l : List Spot)
    → 0 < n
    → length l ≤ n
    → (S : List ℕ)
    → ((r : Square) (u : Tree) → Part s t r u → Wanted k w n l r u → Numbered S u)
    → Justifies k s t w n l S

-- the last listed does not outrank what reaches it
pub not_both : (k : Kind) → Laws k → (l : List Spot) → (m : Spot) → Reaches k l m → LastOver k l m → ⊥
not_both k L [] m h g = h
not_both k L (x ∷ []) m (inl e) g = irrefl_eq k x m (sym e) g
not_both k L (x ∷ []) m (inr h) g = asym k L m x h g
not_both k L (x ∷ y ∷ l) m h g = not_both k L (y ∷ l) m h g

pub either : (k : Kind) → Laws k → (l : List Spot) → 0 < length l → (m : Spot) → Reaches k l m ⊎ LastOver k l m
either k L [] p m = absurd (omega arith)
either k L (x ∷ []) p m = elim (tri k L m x) [ inl h ↦ inl (inr h) | inr (inl h) ↦ inl (inl h) | inr (inr h) ↦ inr h ]
either k L (x ∷ y ∷ l) p m = either k L (y ∷ l) (omega arith) m

-- what outranks a mark that reaches the last reaches it
pub reaches_up : (k : Kind) → Laws k → (l : List Spot) → (m x : Spot) → Outranks k m x → Reaches k l x → Reaches k l m
reaches_up k L [] m x o h = h
reaches_up k L (y ∷ []) m x o (inl e) = inr (subst (λ (z : Spot). Outranks k m z) e o)
reaches_up k L (y ∷ []) m x o (inr h) = inr (trans k L m x y o h)
reaches_up k L (y ∷ z ∷ l) m x o h = reaches_up k L (z ∷ l) m x o h

pub part_lawful : (k : Kind) {s : Square} {t : Tree} {r : Square} {u : Tree} → Part s t r u → Ordered k s t → Ordered k r u
part_lawful k whole h = h
part_lawful k (deeper {r = r} {i = i} {m = m} {a = a} {b = b} {c = c} {d = d} p q) h = lawful_quadrant k r i m a b c d (part_lawful k p h) q

pub touches_up : (s : Square) (q : Quadrant) (w : Window) → 0 < s.level → Touches (quadrant q s) w → Touches s w
touches_up s q w p h = record { row = h.row; col = h.col; within = within_quadrant s q h.row h.col p h.within; seen = h.seen }

module _ (k : Kind) (L : Laws k) (w : Window) (n : ℕ) (l : List Spot) where
  -- a wanted box that is settled is of the set
  settled_wanted : (S : List ℕ) (r : Square) (u : Tree) → Settled k w n l S r u → Wanted k w n l r u → Numbered S u
  settled_wanted S r none g v = v
  settled_wanted S r (box i m a b c d) g v =
      elim (in? ℕ_discrete S i) [
        | inl p ↦ p
        | inr p ↦ let e = g p v.0 in absurd (elim v.1 [ inl lt ↦ e.0 lt | inr reach ↦ not_both k L l m reach e.1 ])
      ]

  -- the parent of a wanted box is wanted
  pub wanted_up : (r : Square) (i : ℕ) (m : Spot) (a b c d : Tree) (q : Quadrant) (u : Tree) → Hangs k r m u → Wanted k w n l (quadrant q r) u → Wanted k w n l r (box i m a b c d)
  wanted_up r i m a b c d q none g v = absurd v
  wanted_up r i m a b c d q (box j x a' b' c' d') g v =
      (touches_up r q w g.0 v.0, elim v.1 [ inl lt ↦ inl lt | inr reach ↦ inr (reaches_up k L l m x g.1 reach) ])

  needed : {s : Square} {t : Tree} {r : Square} {u : Tree} → Part s t r u → Ordered k s t → (S : List ℕ) → Justifies k s t w n l S → Wanted k w n l r u → Numbered S u
  needed {s} {t} whole h S j v = settled_wanted S s t j.root v
  needed {s} {t} (deeper {r = r} {i = i} {m = m} {a = a} {b = b} {c = c} {d = d} p q) h S j v =
      let up = needed p h S j (wanted_up r i m a b c d q (pick a b c d q) (hangs k r i m a b c d (part_lawful k p h) q) v) in
      settled_wanted S (quadrant q r) (pick a b c d q) (j.under p up q) v

  settle : 0 < n → length l ≤ n → (S : List ℕ) (r : Square) (u : Tree) → (Wanted k w n l r u → Numbered S u) → Settled k w n l S r u
  settle pos le S r none g = tt
  settle pos le S r (box i m a b c d) g = λ out touch.
      elim (dec_lt (length l) n) [
        | yes lt ↦ absurd (out (g (touch, inl lt)))
        | no ge ↦ (ge, elim (either k L l (omega arith) m) [ inl reach ↦ absurd (out (g (touch, inr reach))) | inr o ↦ o ])
      ]

pub wanted_is_needed : WantedIsNeeded
wanted_is_needed k L s t h w n l S j r u p v = needed k L w n l p h S j v

pub wanted_is_enough : WantedIsEnough
wanted_is_enough k L s t w n l pos le S g =
    record {
      root = settle k L w n l pos le S s t (g s t whole);
      under = λ {r} {i} {m} {a} {b} {c} {d} p _ q.
          settle k L w n l pos le S (quadrant q r) (pick a b c d q) (g (quadrant q r) (pick a b c d q) (deeper p q));
    }
