-- The order of the waiting boxes does not matter: what a heap does to them keeps the walk.
use Rattle.std.proofs.Common.{◌≡◌, ℕ, ◌≤◌, List, [], ◌∷◌, sym, refl, ap, subst, inl, inr, arith}
use Rattle.std.specs.List.Sorted.{IsPermutation}
use Rattle.std.specs.List.{AllByRecursion, sum_by}
use Rattle.std.proofs.lemmas.List.Elements.{recursion_from_All, All-from_recursion}
use Rattle.std.proofs.lemmas.List.Sorted.{All-permutation, IsPermutation-sym, sum_by-IsPermutation}
use Rattle.std.proofs.lemmas.List.Sums.{sum_by-cons}
use Rattle.grade.specs.Kind.{Kind}
use Rattle.treap.specs.Spots.{Spot}
use Rattle.treap.specs.Trees.{Square, Within, Tree, In}
use Rattle.treap.specs.Draws.{Window}
use Rattle.treap.specs.Plants.{in_square}
use Rattle.treap.specs.Searches.{Node, Spread}
use Rattle.treap.specs.Sums.{one_if}
use Rattle.treap.proofs.Plants.{decides_in_square}
use Rattle.treap.proofs.Walks.{Walk}

-- the order in which the boxes wait does not matter
pub walk_same : (k : Kind) (s : Square) (t : Tree) (w : Window) (done wait next : List Node) → ((e : Node) → In wait e → In next e) → ((e : Node) → In next e → In wait e) → Spread next → Walk k s t w done wait → Walk k s t w done next
walk_same k s t w done wait next to fro sp h =
    record {
      done_parts = h.done_parts;
      wait_parts = λ e p. h.wait_parts e (fro e p);
      spread = sp;
      fell = h.fell;
      above = λ e f p q. h.above e f p (fro f q);
      cover = λ e p v. elim (h.cover e p v) [ inl x ↦ inl x | inr x ↦ inr (x.0, to x.0 x.1, x.2) ];
    }

each_from : {A : Type 0} (P : A → Type 0) (l : List A) → AllByRecursion P l → (x : A) → In l x → P x
each_from P [] h x p = absurd p
each_from P (y ∷ l) h x (inl e) = subst P (sym e) h.0
each_from P (y ∷ l) h x (inr p) = each_from P l h.1 x p

from_each : {A : Type 0} (P : A → Type 0) (l : List A) → ((x : A) → In l x → P x) → AllByRecursion P l
from_each P [] h = tt
from_each P (y ∷ l) h = (h y (inl refl), from_each P l (λ x p. h x (inr p)))

in_shuffled : {A : Type 0} (l r : List A) → IsPermutation l r → (x : A) → In r x → In l x
in_shuffled l r s =
    each_from (In l) r (recursion_from_All (In l) r (All-permutation (In l) l r s (All-from_recursion (In l) l (from_each (In l) l (λ x p. p)))))

-- how many of the boxes have the cell in their square
module _ (row col : ℕ) where
  abbrev cell : Spot
  cell = record { row = row; col = col; grade = 0 }

  abbrev over : Node → ℕ
  over e = one_if (in_square e.square cell)

  over_is : (e : Node) → Within e.square row col → over e ≡ 1
  over_is e h = ap one_if ((decides_in_square e.square cell).1 h)

  over_none : (e : Node) → (Within e.square row col → ⊥) → over e ≡ 0
  over_none e h = grind (arith, (decides_in_square e.square cell).0)

  crowd_has : (l : List Node) (e : Node) → In l e → Within e.square row col → 1 ≤ sum_by over l
  crowd_has [] e p h = absurd p
  crowd_has (y ∷ l) e (inl x) h = omega (arith, sum_by-cons over y l, over_is y (subst (λ (z : Node). Within z.square row col) x h))
  crowd_has (y ∷ l) e (inr p) h = omega (arith, sum_by-cons over y l, crowd_has l e p h)

  crowd_none : (l : List Node) → ((e : Node) → In l e → Within e.square row col → ⊥) → sum_by over l ≡ 0
  crowd_none [] f = refl
  crowd_none (y ∷ l) f = omega (arith, sum_by-cons over y l, over_none y (f y (inl refl)), crowd_none l (λ e p. f e (inr p)))

  crowd_spread : (l : List Node) → Spread l → sum_by over l ≤ 1
  crowd_spread [] h = omega arith
  crowd_spread (y ∷ l) h =
      let alone = λ (v : Within y.square row col). crowd_none l (λ g p w. h.0 g p record { row = row; col = col; first = v; second = w }) in
      grind (arith, sum_by-cons over y l, crowd_spread l h.1, alone, (decides_in_square y.square cell).0)

spread_from_crowd : (l : List Node) → ((row col : ℕ) → sum_by (over row col) l ≤ 1) → Spread l
spread_from_crowd [] h = tt
spread_from_crowd (y ∷ l) h = (
  λ e p s. omega (arith, h s.row s.col, sum_by-cons (over s.row s.col) y l, over_is s.row s.col y s.first, crowd_has s.row s.col l e p s.second),
  spread_from_crowd l (λ row col. omega (arith, h row col, sum_by-cons (over row col) y l)),
)

pub walk_shuffled : (k : Kind) (s : Square) (t : Tree) (w : Window) (done wait next : List Node) → IsPermutation wait next → Walk k s t w done wait → Walk k s t w done next
walk_shuffled k s t w done wait next sh h =
    walk_same k s t w done wait next (in_shuffled next wait (IsPermutation-sym wait next sh)) (in_shuffled wait next sh)
    (spread_from_crowd next
    (λ row col. omega (arith, sum_by-IsPermutation (over row col) wait next sh, crowd_spread row col wait h.spread)))
    h
