-- One list has the n best marks, and some list has.
use Rattle.std.proofs.Common.{◌≡◌, ℕ, zero, suc, pred, ◌<◌, ◌≤◌, ◌⊎◌, List, [], ◌∷◌, length, filter, sym, refl, ap, subst, inl, inr, arith}
use Rattle.treap.specs.Trees.{In}
use Rattle.grade.specs.Kind.{Kind, Laws}
use Rattle.treap.specs.Spots.{Spot, Outranks}
use Rattle.treap.specs.Draws.{Falls, LastOver, Best}
use Rattle.treap.specs.Plants.{outranks, best}
use Rattle.treap.proofs.Ranks.{irrefl_eq, trans, asym, spot_discrete, decides_outranks}
use Rattle.treap.proofs.Plants.{kept_in, kept_has, best_leads, best_in}
use Rattle.treap.proofs.Lists.{in?, Pairs}

-- each mark outranks all that come after it
abbrev pub Chain : Kind → List Spot → Type 0
Chain k = Pairs (Outranks k)

-- as many are listed as asked for, and each outranks x
abbrev pub Outdone : Kind → ℕ → List Spot → Spot → Type 0
Outdone k n l x = (length l ≡ n) × ((y : Spot) → In l y → Outranks k y x)

-- the head of a chain of neighbours outranks what its last outranks
pub last_over_all : (k : Kind) → Laws k → (l : List Spot) → Falls k l → (m : Spot) → LastOver k l m → (x : Spot) → In l x → Outranks k x m
last_over_all k L [] h m o x g = absurd g
last_over_all k L (y ∷ []) h m o x (inl e) = subst (λ (z : Spot). Outranks k z m) (sym e) o
last_over_all k L (y ∷ []) h m o x (inr g) = absurd g
last_over_all k L (y ∷ z ∷ l) h m o x (inl e) =
    subst (λ (v : Spot). Outranks k v m) (sym e)
    (trans k L y z m h.0 (last_over_all k L (z ∷ l) h.1 m o z (inl refl)))
last_over_all k L (y ∷ z ∷ l) h m o x (inr g) = last_over_all k L (z ∷ l) h.1 m o x g

head_over : (k : Kind) → Laws k → (y : Spot) (l : List Spot) → Falls k (y ∷ l) → (z : Spot) → In l z → Outranks k y z
head_over k L y [] h z g = absurd g
head_over k L y (x ∷ l) h z (inl e) = subst (λ (v : Spot). Outranks k y v) (sym e) h.0
head_over k L y (x ∷ l) h z (inr g) =
    trans k L y x z h.0 (head_over k L x l h.1 z g)

pub falls_tail : (k : Kind) (y : Spot) (l : List Spot) → Falls k (y ∷ l) → Falls k l
falls_tail k y [] h = tt
falls_tail k y (x ∷ l) h = h.1

pub chain_from_falls : (k : Kind) → Laws k → (l : List Spot) → Falls k l → Chain k l
chain_from_falls k L [] h = tt
chain_from_falls k L (y ∷ l) h = (head_over k L y l h, chain_from_falls k L l (falls_tail k y l h))

-- as `Best`, with what is left out below every mark listed
pub record Top (k : Kind) (P : Spot → Type 0) (n : ℕ) (l : List Spot) : Type 0 where
  pub listed : (x : Spot) → In l x → P x
  pub chain : Chain k l
  pub rest : (x : Spot) → P x → In l x ⊎ Outdone k n l x
  pub most : length l ≤ n

pub top_from_best : (k : Kind) → Laws k → (P : Spot → Type 0) → (n : ℕ) (l : List Spot) → Best k P n l → Top k P n l
top_from_best k L P n l h =
    record {
      listed = h.listed;
      chain = chain_from_falls k L l h.falls;
      rest = λ x p. elim (in? spot_discrete l x) [
        | inl g ↦ inl g
        | inr g ↦ let full : (length l < n) → ⊥ = λ lt. g (h.few lt x p) in
            let most = h.most in
            inr (omega arith, last_over_all k L l h.falls x (h.left_out x p g))
      ];
      most = h.most;
    }

falls_from_chain : (k : Kind) (l : List Spot) → Chain k l → Falls k l
falls_from_chain k [] h = tt
falls_from_chain k (x ∷ []) h = tt
falls_from_chain k (x ∷ y ∷ l) h = (h.0 y (inl refl), falls_from_chain k (y ∷ l) h.1)

pub last_over_from_all : (k : Kind) (l : List Spot) (m : Spot) → 0 < length l → ((x : Spot) → In l x → Outranks k x m) → LastOver k l m
last_over_from_all k [] m h f = omega arith
last_over_from_all k (x ∷ []) m h f = f x (inl refl)
last_over_from_all k (x ∷ y ∷ l) m h f = last_over_from_all k (y ∷ l) m (omega arith) (λ z p. f z (inr p))

pub best_from_top : (k : Kind) (P : Spot → Type 0) (n : ℕ) (l : List Spot) → 0 < n → Top k P n l → Best k P n l
best_from_top k P n l pos h =
    record {
      listed = h.listed;
      falls = falls_from_chain k l h.chain;
      left_out = λ x p out. elim (h.rest x p) [ inl g ↦ absurd (out g) | inr o ↦ last_over_from_all k l x (omega (arith, o.0)) o.1 ];
      few = λ lt x p. elim (h.rest x p) [ inl g ↦ g | inr o ↦ absurd (omega (arith, o.0)) ];
      most = h.most;
    }

-- the marks below x of which P holds
abbrev Beneath : Kind → (Spot → Type 0) → Spot → Spot → Type 0
Beneath k P x z = P z × Outranks k x z

top_tail : (k : Kind) (P : Spot → Type 0) (n : ℕ) (x : Spot) (l : List Spot) → Top k P n (x ∷ l) → Top k (Beneath k P x) (pred n) l
top_tail k P n x l h =
    record {
      listed = λ z g. (h.listed z (inr g), h.chain.0 z g);
      chain = h.chain.1;
      rest = λ z p. elim (h.rest z p.0) [
        | inl (inl e) ↦ absurd (irrefl_eq k x z (sym e) p.1)
        | inl (inr g) ↦ inl g
        | inr g ↦ inr (omega (arith, g.0), λ y q. g.1 y (inr q))
      ];
      most = omega arith;
    }

top_head : (k : Kind) (P : Spot → Type 0) (n : ℕ) (x : Spot) (l : List Spot) → Top k P n (x ∷ l) → (z : Spot) → P z → (z ≡ x) ⊎ Outranks k x z
top_head k P n x l h z p = elim (h.rest z p) [ inl (inl e) ↦ inl e | inl (inr g) ↦ inr (h.chain.0 z g) | inr g ↦ inr (g.1 x (inl refl)) ]

pub one_top : (k : Kind) → Laws k → (P : Spot → Type 0) → (n : ℕ) (l r : List Spot) → Top k P n l → Top k P n r → l ≡ r
one_top k L P n [] [] h g = refl
one_top k L P n [] (y ∷ r) h g = elim (h.rest y (g.listed y (inl refl))) [ inl e ↦ absurd e | inr e ↦ absurd (omega (arith, g.most, e.0)) ]
one_top k L P n (x ∷ l) [] h g = elim (g.rest x (h.listed x (inl refl))) [ inl e ↦ absurd e | inr e ↦ absurd (omega (arith, h.most, e.0)) ]
one_top k L P n (x ∷ l) (y ∷ r) h g =
    let e : x ≡ y =
    elim (top_head k P n x l h y (g.listed y (inl refl))) [
      | inl e ↦ sym e
      | inr a ↦ elim (top_head k P n y r g x (h.listed x (inl refl))) [ inl e ↦ e | inr b ↦ absurd (asym k L x y a b) ]
    ] in
    let tails : l ≡ r =
    one_top k L (Beneath k P x) (pred n) l r (top_tail k P n x l h)
    (subst (λ (z : Spot). Top k (Beneath k P z) (pred n) r) (sym e) (top_tail k P n y r g)) in
    cc

-- the n best of the marks of a list
abbrev pub top_of : Kind → ℕ → List Spot → List Spot
top_of k zero s = []
top_of k (suc n) [] = []
top_of k (suc n) (y ∷ s) = let x = best k y s in x ∷ top_of k n (filter (outranks k x) (y ∷ s))

pub some_top : (k : Kind) → Laws k → (n : ℕ) (s : List Spot) → Top k (In s) n (top_of k n s)
some_top k L zero s = record { listed = λ x p. absurd p; chain = tt; rest = λ x p. inr (refl, λ y q. absurd q); most = omega arith }
some_top k L (suc n) [] = record { listed = λ x p. p; chain = tt; rest = λ x p. absurd p; most = omega arith }
some_top k L (suc n) (y ∷ s) =
    let x = best k y s in
    let r = some_top k L n (filter (outranks k x) (y ∷ s)) in
    record {
      listed = λ z p. elim p [ inl e ↦ subst (In (y ∷ s)) (sym e) (best_in k y s) | inr g ↦ (kept_in (outranks k x) (y ∷ s) z (r.listed z g)).0 ];
      chain = (λ z g. (decides_outranks k x z).0 (kept_in (outranks k x) (y ∷ s) z (r.listed z g)).1, r.chain);
      rest = λ z p. elim (best_leads k L y s z p) [
        | inl e ↦ inl (inl e)
        | inr o ↦ elim (r.rest z (kept_has (outranks k x) (y ∷ s) z p ((decides_outranks k x z).1 o))) [
          | inl g ↦ inl (inr g)
          | inr g ↦ inr (ap suc g.0, λ v q. elim q [ inl e ↦ subst (λ (u : Spot). Outranks k u z) (sym e) o | inr i ↦ g.1 v i ])
        ]
      ];
      most = let m = r.most in omega arith;
    }

pub one_best : (k : Kind) → Laws k → (P : Spot → Type 0) → (n : ℕ) (l r : List Spot) → Best k P n l → Best k P n r → l ≡ r
one_best k L P n l r h g = one_top k L P n l r (top_from_best k L P n l h) (top_from_best k L P n r g)

pub best_of : (k : Kind) (P Q : Spot → Type 0) → ((x : Spot) → P x → Q x) → ((x : Spot) → Q x → P x) → (n : ℕ) (l : List Spot) → Best k P n l → Best k Q n l
best_of k P Q f g n l h =
    record {
      listed = λ x p. f x (h.listed x p);
      falls = h.falls;
      left_out = λ x q. h.left_out x (g x q);
      few = λ lt x q. h.few lt x (g x q);
      most = h.most;
    }
