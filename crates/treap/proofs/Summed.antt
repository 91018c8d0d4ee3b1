-- A pile shows what one floor under one shift shows: two floors are the stricter, two shifts add up, and a floor looks at
-- grades only.
use Rattle.std.proofs.Common.{◌≡◌, ℕ, ◌+◌, ◌≤◌, Bool, true, false, cond, ◌&&◌, List, [], ◌∷◌, Some, None, Option, sym, refl, ap, ◌∙◌, arith}
use Rattle.std.proofs.lemmas.Bool.Decides.{nat_tests}
use Rattle.grade.specs.Kind.{Kind, Laws}
use Rattle.treap.specs.Trees.{Square, Tree, none, box, Meaning, Lawful}
use Rattle.treap.specs.Layers.{floor, floored, moved_square, moved, shifted, past_edge, shift_refusal}
use Rattle.treap.specs.Piles.{
  Layer,
  floor_at,
  shift_by,
  lay,
  piled,
  pile_refusal,
  Sum,
  stricter,
  sum_with,
  summed_from,
  no_layer,
  under,
  through,
  OneFloorOneShift,
}

-- a shift by no rows and no columns changes nothing

moved_none : (t : Tree) → moved 0 0 t ≡ t
moved_none none = refl
moved_none (box i m a b c d) = grind (arith, moved_none a, moved_none b, moved_none c, moved_none d)

pub moved_square_none : (s : Square) → moved_square 0 0 s ≡ s
moved_square_none s = grind arith

shifted_none : (m : Meaning) → shifted 0 0 m ≡ m
shifted_none m = grind (arith, moved_none m.tree)

-- two shifts add up

pub add_on : (a b c : ℕ) → a + b + c ≡ a + (b + c)
add_on a b c = omega arith

module _ (r c r' c' : ℕ) where
  pub moved_square_again : (s : Square) → moved_square r' c' (moved_square r c s) ≡ moved_square (r + r') (c + c') s
  moved_square_again s = grind arith

  moved_again : (t : Tree) → moved r' c' (moved r c t) ≡ moved (r + r') (c + c') t
  moved_again none = refl
  moved_again (box i m u v w x) = grind (arith, moved_again u, moved_again v, moved_again w, moved_again x)

  shifted_again : (m : Meaning) → shifted r' c' (shifted r c m) ≡ shifted (r + r') (c + c') m
  shifted_again m = grind (arith, moved_again m.tree)

-- a floor looks at grades only

floor_moved : (k : Kind) (g r c : ℕ) (t : Tree) → floor k g (moved r c t) ≡ moved r c (floor k g t)
floor_moved k g r c none = refl
floor_moved k g r c (box i m u v w x) = grind (arith, floor_moved k g r c u, floor_moved k g r c v, floor_moved k g r c w, floor_moved k g r c x)

-- two floors are the stricter

above_both : (k : Kind) → Laws k → (h g a : ℕ) → (k.above a h && k.above a g) ≡ k.above a (cond (k.above h g) h g)
above_both k L h g a = grind (arith, L.trans a h g, L.trans a g h, L.total h g)

floor_again : (k : Kind) → Laws k → (h g : ℕ) (t : Tree) → floor k g (floor k h t) ≡ floor k (cond (k.above h g) h g) t
floor_again k L h g none = refl
floor_again k L h g (box i m a b c d) =
    grind (arith, floor_again k L h g a, floor_again k L h g b, floor_again k L h g c, floor_again k L h g d, above_both k L h g m.grade)

under_again : (k : Kind)
    → Laws k
    → (o : Option ℕ) (g : ℕ) (m : Meaning)
    → floored k g (under k o m) ≡ under k (stricter k o g) m
under_again k L None g m = refl
under_again k L (Some h) g m = cc (floor_again k L h g m.tree)

-- so one layer more over a sum is the sum with it

lay_through : (k : Kind)
    → Laws k
    → (s : Sum) (y : Layer) (m : Meaning)
    → lay k y (through k s m) ≡ through k (sum_with k s y) m
lay_through k L s (floor_at g) m =
    cc (floor_moved k g s.rows s.cols (under k s.least m).tree) ∙ ap (shifted s.rows s.cols) (under_again k L s.least g m)
lay_through k L s (shift_by rows cols) m = shifted_again s.rows s.cols rows cols (under k s.least m)

piled_through : (k : Kind)
    → Laws k
    → (s : Sum) (p : List Layer) (m : Meaning)
    → piled k p (through k s m) ≡ through k (summed_from k s p) m
piled_through k L s [] m = refl
piled_through k L s (y ∷ p) m = ap (piled k p) (lay_through k L s y m) ∙ piled_through k L (sum_with k s y) p m

-- sums only grow, so some shift is refused exactly if the whole sum is

pub grows : (k : Kind) (s : Sum) (p : List Layer)
    → (s.rows ≤ (summed_from k s p).rows) × (s.cols ≤ (summed_from k s p).cols)
grows k s [] = (omega arith, omega arith)
grows k s (floor_at g ∷ p) = grows k (sum_with k s (floor_at g)) p
grows k s (shift_by rows cols ∷ p) = let e = grows k (sum_with k s (shift_by rows cols)) p in (omega arith, omega arith)

past_edge_grows : (r c r' c' : ℕ) (s : Square) → r ≤ r' → c ≤ c' → past_edge r c s ≡ true → past_edge r' c' s ≡ true
past_edge_grows r c r' c' s le le' e = grind (arith, nat_tests)

within_edge : (k : Kind) (m : Meaning) → Lawful k m → past_edge 0 0 m.square ≡ false
within_edge k m h = grind (arith, nat_tests, h.rows, h.cols)

-- the pile over n is refused as the whole sum over m is, where the sum comes to s before it
abbrev AsOne : Kind → List Layer → Sum → Meaning → Meaning → Type 0
AsOne k p s m n = pile_refusal k p n ≡ shift_refusal (summed_from k s p).rows (summed_from k s p).cols m

refused : (k : Kind) (p : List Layer) (s : Sum) (m n : Meaning)
    → n.square ≡ moved_square s.rows s.cols m.square
    → past_edge s.rows s.cols m.square ≡ false
    → AsOne k p s m n
refused k [] s m n e f = rw f refl
refused k (floor_at g ∷ p) s m n e f = refused k p (sum_with k s (floor_at g)) m (floored k g n) e f
refused k (shift_by rows cols ∷ p) s m n e f =
    go (past_edge (s.rows + rows) (s.cols + cols) m.square) refl
    (refused k p next m (shifted rows cols n)
    (ap (moved_square rows cols) e ∙ moved_square_again s.rows s.cols rows cols m.square))
  where
    next : Sum
    next = sum_with k s (shift_by rows cols)

    here : past_edge rows cols n.square ≡ past_edge next.rows next.cols m.square
    here = ap (past_edge rows cols) e ∙ grind arith

    go : (v : Bool)
        → past_edge next.rows next.cols m.square ≡ v
        → (past_edge next.rows next.cols m.square ≡ false → AsOne k p next m (shifted rows cols n))
        → AsOne k (shift_by rows cols ∷ p) s m n
    go true g rest =
        let up = grows k next p in
        rw (here ∙ g, past_edge_grows _ _ _ _ m.square up.0 up.1 g) refl
    go false g rest = rw (here ∙ g) (rest g)

pub one_floor_one_shift_lem : OneFloorOneShift
one_floor_one_shift_lem k L p m h = (
  ap (piled k p) (sym (shifted_none m)) ∙ piled_through k L no_layer p m,
  refused k p no_layer m m (grind arith) (within_edge k m h),
)
