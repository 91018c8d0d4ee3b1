-- Marks of a tree by sums: a mark is shown where it is counted.
use Rattle.std.proofs.Common.{◌≡◌, ℕ, ◌≤◌, Bool, true, false, ◌&&◌, eqb, refl, ap, arith, eq-eqb, ne_eqb}
use Rattle.std.proofs.lemmas.Bool.Decides.{nat_tests}
use Rattle.treap.specs.Spots.{Spot}
use Rattle.treap.specs.Trees.{Tree, none, box, Shows}
use Rattle.treap.specs.Sums.{one_if, mark_sum, at_cell, in_cell}
use Rattle.treap.proofs.Ranks.{spot_eq}

pub one_is : (n i : ℕ) → n ≡ i → one_if (eqb n i) ≡ 1
one_is n i e = ap one_if (eq-eqb n i e)

pub none_is : (n i : ℕ) → (n ≡ i → ⊥) → one_if (eqb n i) ≡ 0
none_is n i h = ap one_if (ne_eqb n i h)

pub one_if_le : (b : Bool) → one_if b ≤ 1
one_if_le true = omega arith
one_if_le false = omega arith

pub both_true : (a b : Bool) → a && b ≡ true → (a ≡ true) × (b ≡ true)
both_true true b e = (refl, e)
both_true false b e = absurd (omega (arith, ap one_if e))

pub true_both : (a b : Bool) → a ≡ true → b ≡ true → a && b ≡ true
true_both a b e f = rw (e, f)

pub at_cell_is : (row col : ℕ) (m : Spot) → at_cell row col m ≡ true → (row ≡ m.row) × (col ≡ m.col)
at_cell_is row col m e = (grind (arith, nat_tests), grind (arith, nat_tests))

pub is_at_cell : (row col : ℕ) (m : Spot) → row ≡ m.row → col ≡ m.col → at_cell row col m ≡ true
is_at_cell row col m e f = grind (arith, nat_tests)

-- x and y are one mark
abbrev pub same : Spot → Spot → Bool
same x y = at_cell x.row x.col y && eqb x.grade y.grade

-- how many boxes hold the mark x
abbrev pub has : Spot → Tree → ℕ
has x t = mark_sum (λ y. one_if (same x y)) t

pub same_is : (x y : Spot) → same x y ≡ true → x ≡ y
same_is x y e = spot_eq x y (grind (arith, nat_tests)) (grind (arith, nat_tests)) (grind (arith, nat_tests))

pub is_same : (x y : Spot) → x ≡ y → same x y ≡ true
is_same x y e = grind (arith, nat_tests)

pub has_self : (x y : Spot) → x ≡ y → one_if (same x y) ≡ 1
has_self x y e = ap one_if (is_same x y e)

pub shows_has : (x : Spot) (t : Tree) → Shows t x → 1 ≤ has x t
shows_has x none h = absurd h
shows_has x (box n m a b c d) h = grind (arith, has_self x m, shows_has x a, shows_has x b, shows_has x c, shows_has x d)

pub has_shows : (x : Spot) (t : Tree) → 1 ≤ has x t → Shows t x
has_shows x none h = absurd (omega arith)
has_shows x (box n m a b c d) h = grind (arith, same_is x m, has_shows x a, has_shows x b, has_shows x c, has_shows x d)

pub mark_sum_le : (f g : Spot → ℕ) (t : Tree) → ((m : Spot) → f m ≤ g m) → mark_sum f t ≤ mark_sum g t
mark_sum_le f g none h = omega arith
mark_sum_le f g (box n m a b c d) h =
    omega (arith, h m, mark_sum_le f g a h, mark_sum_le f g b h, mark_sum_le f g c h, mark_sum_le f g d h)

-- a mark that is shown stands in its cell
pub has_in_cell : (x : Spot) (t : Tree) → has x t ≤ in_cell x.row x.col t
has_in_cell x t = mark_sum_le _ _ t (λ y. and_le (at_cell x.row x.col y) (eqb x.grade y.grade))
  where
    and_le : (a b : Bool) → one_if (a && b) ≤ one_if a
    and_le a b = grind arith
