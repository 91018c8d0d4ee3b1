-- The tree worked out from marks is lawful and shows them.
use Rattle.std.proofs.Common.{◌≡◌, ℕ, zero, suc, pred, ◌+◌, ◌^◌, ◌<◌, Bool, true, cond, ◌&&◌, ◌⊎◌, List, [], ◌∷◌, Decides, filter, sym, refl, subst, inl, inr, arith}
use native.Mathlib.Decide.{dec_lt}
use Rattle.std.proofs.lemmas.Bool.Decides.{nat_tests}
use Rattle.std.proofs.lemmas.Bool.{and_parts, and_from}
use Rattle.grade.specs.Kind.{Kind, Laws}
use Rattle.treap.specs.Spots.{Spot, Outranks}
use Rattle.treap.specs.Trees.{
  Quadrant,
  tl,
  tr,
  bl,
  br,
  Square,
  Within,
  quadrant,
  Tree,
  none,
  box,
  pick,
  Shows,
  Holds,
  Hangs,
  In,
}
use Rattle.treap.specs.Plants.{outranks, in_square, best, share, plant_at, OneACell, Planted, SomeTree}
use Rattle.treap.proofs.Lists.{by_quadrant}
use Rattle.treap.proofs.Hanging.{hang, one_cell}
use Rattle.treap.proofs.Ranks.{trans, tri, decides_outranks}
use Rattle.treap.proofs.Shown.{below, split, halves}

pub decides_in_square : (s : Square) (m : Spot) → Decides (in_square s m) (Within s m.row m.col)
decides_in_square s m = (λ e. grind (arith, nat_tests), λ w. grind (arith, nat_tests, w.not_above, w.not_below, w.not_left, w.not_right))

pub kept_in : (p : Spot → Bool) (l : List Spot) (x : Spot) → In (filter p l) x → In l x × (p x ≡ true)
kept_in p [] x h = absurd h
kept_in p (y ∷ l) x h = grind (arith, kept_in p l x)

pub kept_has : (p : Spot → Bool) (l : List Spot) (x : Spot) → In l x → p x ≡ true → In (filter p l) x
kept_has p [] x h e = h
kept_has p (y ∷ l) x h e = grind (arith, kept_has p l x)

-- a share has the marks of l that m outranks and that lie in the square
share_in : (k : Kind) (m : Spot) (s : Square) (l : List Spot) (x : Spot)
    → In (share k m s l) x
    → In l x × Outranks k m x × Within s x.row x.col
share_in k m s l x h =
    let r = kept_in (λ y. outranks k m y && in_square s y) l x h in
    let e = and_parts (outranks k m x) (in_square s x) r.1 in
    (r.0, (decides_outranks k m x).0 e.0, (decides_in_square s x).0 e.1)

share_has : (k : Kind) (m : Spot) (s : Square) (l : List Spot) (x : Spot)
    → In l x
    → Outranks k m x
    → Within s x.row x.col
    → In (share k m s l) x
share_has k m s l x h o w =
    kept_has (λ y. outranks k m y && in_square s y) l x h
    (and_from (outranks k m x) (in_square s x) ((decides_outranks k m x).1 o) ((decides_in_square s x).1 w))

-- m is x or outranks it
abbrev Leads : Kind → Spot → Spot → Type 0
Leads k m x = (x ≡ m) ⊎ Outranks k m x

leads_trans : (k : Kind) → Laws k → (m n x : Spot) → Leads k m n → Leads k n x → Leads k m x
leads_trans k L m n x (inl e) h = subst (λ (y : Spot). Leads k y x) e h
leads_trans k L m n x (inr o) (inl e) = inr (subst (λ (y : Spot). Outranks k m y) (sym e) o)
leads_trans k L m n x (inr o) (inr g) = inr (trans k L m n x o g)

-- the better of two marks
better_leads : (k : Kind) → Laws k → (m x : Spot) → Leads k (cond (outranks k x m) x m) m × Leads k (cond (outranks k x m) x m) x
better_leads k L m x = grind (arith, decides_outranks k x m, tri k L x m)

pub best_leads : (k : Kind) → Laws k → (m : Spot) (l : List Spot) (x : Spot) → In (m ∷ l) x → Leads k (best k m l) x
best_leads k L m [] x h = grind (arith)
best_leads k L m (y ∷ l) x h =
    let n : Spot = cond (outranks k y m) y m in
    let first = λ (z : Spot). leads_trans k L (best k n l) n z (best_leads k L n l n (inl refl)) in
    elim h [
      | inl e ↦ subst (λ (z : Spot). Leads k (best k n l) z) (sym e) (first m (better_leads k L m y).0)
      | inr (inl e) ↦ subst (λ (z : Spot). Leads k (best k n l) z) (sym e) (first y (better_leads k L m y).1)
      | inr (inr g) ↦ best_leads k L n l x (inr g)
    ]

pub best_in : (k : Kind) (m : Spot) (l : List Spot) → In (m ∷ l) (best k m l)
best_in k m [] = inl refl
best_in k m (y ∷ l) = grind (arith, best_in k (cond (outranks k y m) y m) l)

-- each cell of a square that has quadrants lies in one
some_quadrant : (s : Square) (row col : ℕ) → 0 < s.level → Within s row col → (q : Quadrant) × Within (quadrant q s) row col
some_quadrant s row col pos w =
    let e = halves s.level pos in
    elim (dec_lt row (s.top + 2 ^ pred s.level)) [
      | yes a ↦ elim (dec_lt col (s.left + 2 ^ pred s.level)) [ yes b ↦ (tl, search arith) | no b ↦ (tr, search arith) ]
      | no a ↦ elim (dec_lt col (s.left + 2 ^ pred s.level)) [ yes b ↦ (bl, search arith) | no b ↦ (br, search arith) ]
    ]

-- m is the best of the marks l of the square s
module _ (k : Kind) (s : Square) (l : List Spot) (holds : (x : Spot) → In l x → Holds k s x) (m : Spot) (has : In l m) (top : (x : Spot) → In l x → Leads k m x) where
  abbrev Part : Tree → Quadrant → Type 0
  Part t q = Planted k (quadrant q s) (share k m (quadrant q s) l) t

  join : 0 < s.level → (a b c d : Tree) → Part a tl → Part b tr → Part c bl → Part d br → Planted k s l (box 0 m a b c d)
  join pos a b c d pa pb pc pd =
      record {
        ordered = (holds m has, (hung tl, hung tr, hung bl, hung br), (pa.ordered, pb.ordered, pc.ordered, pd.ordered));
        listed = λ x h. elim (split a b c d m x 0 h) [
          | inl e ↦ subst (λ (y : Spot). In l y) (sym e) has
          | inr w ↦ (share_in k m (quadrant w.0 s) l x ((part w.0).listed x w.1)).0
        ];
        shown = λ x h. elim (top x h) [ inl e ↦ inl e | inr o ↦ lower x h o (some_quadrant s x.row x.col pos (holds x h).inside) ];
      }
    where
      part : (q : Quadrant) → Part (pick a b c d q) q
      part = by_quadrant _ pa pb pc pd

      hung : (q : Quadrant) → Hangs k s m (pick a b c d q)
      hung q = hang k s m (pick a b c d q) pos (λ x h. (share_in k m (quadrant q s) l x ((part q).listed x h)).1)

      lower : (x : Spot) → In l x → Outranks k m x → ((q : Quadrant) × Within (quadrant q s) x.row x.col) → Shows (box 0 m a b c d) x
      lower x h o w = below a b c d 0 m x w.0 ((part w.0).shown x (share_has k m (quadrant w.0 s) l x h o w.1))

  single : s.level ≡ 0 → OneACell l → Planted k s l (box 0 m none none none none)
  single e one =
      record {
        ordered = (holds m has, (tt, tt, tt, tt), (tt, tt, tt, tt));
        listed = λ x h. grind (arith);
        shown = λ x h. let c = one_cell s x.row x.col m.row m.col (holds x h).inside (holds m has).inside e in inl (one x m h has c.0 c.1);
      }

planted : (k : Kind)
    → Laws k
    → (h : ℕ) (s : Square)
    → s.level ≡ h
    → (l : List Spot)
    → ((x : Spot) → In l x → Holds k s x)
    → OneACell l
    → Planted k s l (plant_at k h s l)
planted k L h s e [] holds one = record { ordered = tt; listed = λ x p. p; shown = λ x p. p }
planted k L zero s e (y ∷ l) holds one = single k s (y ∷ l) holds (best k y l) (best_in k y l) (best_leads k L y l) e one
planted k L (suc h) s e (y ∷ l) holds one =
    join k s (y ∷ l) holds m (best_in k y l) (best_leads k L y l) (omega arith) (part tl) (part tr) (part bl) (part br)
    (planted k L h (quadrant tl s) down (marks tl) (within tl) (alone tl))
    (planted k L h (quadrant tr s) down (marks tr) (within tr) (alone tr))
    (planted k L h (quadrant bl s) down (marks bl) (within bl) (alone bl))
    (planted k L h (quadrant br s) down (marks br) (within br) (alone br))
  where
    m : Spot
    m = best k y l

    marks : Quadrant → List Spot
    marks q = share k m (quadrant q s) (y ∷ l)

    part : Quadrant → Tree
    part q = plant_at k h (quadrant q s) (marks q)

    down : pred s.level ≡ h
    down = omega arith

    within : (q : Quadrant) (x : Spot) → In (marks q) x → Holds k (quadrant q s) x
    within q x g = let r = share_in k m (quadrant q s) (y ∷ l) x g in record { fair = (holds x r.0).fair; inside = r.2 }

    alone : (q : Quadrant) → OneACell (marks q)
    alone q u v g h = one u v (share_in k m (quadrant q s) (y ∷ l) u g).0 (share_in k m (quadrant q s) (y ∷ l) v h).0

pub some_tree_lem : SomeTree
some_tree_lem k L s l holds one = planted k L s.level s refl l holds one
