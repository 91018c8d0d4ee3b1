-- The mark that a tree without two in a cell has in a cell, and its grade.
use Rattle.std.proofs.Common.{◌≡◌, ℕ, ◌+◌, ◌≤◌, Bool, true, false, cond, ◌⊎◌, is_some, Some, None, sym, ◌∙◌, refl, ap, inl, inr, arith}
use native.Mathlib.Decide.{ℕ_discrete}
use Rattle.std.proofs.lemmas.Bool.Decides.{nat_tests}
use Rattle.grade.specs.Kind.{Kind}
use Rattle.treap.specs.Spots.{Spot}
use Rattle.treap.specs.Trees.{Quadrant, tl, tr, bl, br, Square, Within, quadrant, Tree, none, box, pick, Shows, Ordered, Lone, count}
use Rattle.treap.specs.Sums.{one_if, mark_sum, at_cell, in_cell, Alone, grade_in}
use Rattle.treap.proofs.Ranks.{spot_eq}
use Rattle.treap.proofs.Shown.{shown_holds, lawful_quadrant, one_quadrant}
use Rattle.treap.proofs.Counts.{at_cell_is, mark_sum_le, same, has, has_self, shows_has, has_shows}

pub mark_sum_add : (f g : Spot → ℕ) (t : Tree) → mark_sum (λ m. f m + g m) t ≡ mark_sum f t + mark_sum g t
mark_sum_add f g none = refl
mark_sum_add f g (box i m a b c d) =
    omega (arith, mark_sum_add f g a, mark_sum_add f g b, mark_sum_add f g c, mark_sum_add f g d)

-- a mark that a tree shows counts in a sum over its marks
pub shown_le : (f : Spot → ℕ) (t : Tree) (x : Spot) → Shows t x → f x ≤ mark_sum f t
shown_le f none x h = absurd h
shown_le f (box i m a b c d) x h = grind (arith, shown_le f a x, shown_le f b x, shown_le f c x, shown_le f d x)

pub one_if_tells : (b : Bool) → ((b ≡ true) × (one_if b ≡ 1)) ⊎ ((b ≡ false) × (one_if b ≡ 0))
one_if_tells true = inl (refl, refl)
one_if_tells false = inr (refl, refl)

-- 1 for the mark x, 0 for any other
abbrev is : Spot → Spot → ℕ
is x m = one_if (same x m)

pub alone_lone : (t : Tree) → Alone t → Lone t
alone_lone t alone x y hx hy er ec = go (ℕ_discrete x.grade y.grade)
  where
    apart : (x.grade ≡ y.grade → ⊥) → (m : Spot) → is x m + is y m ≤ one_if (at_cell x.row x.col m)
    apart ne m = grind (arith, nat_tests, one_if_tells)

    go : Dec (x.grade ≡ y.grade) → x ≡ y
    go (yes e) = spot_eq x y er ec e
    go (no ne) =
        absurd (
        omega (
          arith,
          shown_le (is x) t x hx,
          shown_le (is y) t y hy,
          has_self x x refl,
          has_self y y refl,
          mark_sum_add (is x) (is y) t,
          mark_sum_le (λ m. is x m + is y m) (λ m. one_if (at_cell x.row x.col m)) t (apart ne),
          alone x.row x.col,
        )
        )

-- the tree shows the mark whose grade it has in a cell
pub graded_shown : (row col : ℕ) (t : Tree) (g : ℕ) → grade_in row col t ≡ Some g → Shows t (record { row = row; col = col; grade = g })
graded_shown row col none g e = cc
graded_shown row col (box i m a b c d) g e =
    grind (arith, nat_tests, graded_shown row col a g, graded_shown row col b g, graded_shown row col c g, graded_shown row col d g)

-- a cell without a grade has no mark
pub ungraded_free : (row col : ℕ) (t : Tree) → grade_in row col t ≡ None → in_cell row col t ≡ 0
ungraded_free row col none e = refl
ungraded_free row col (box i m a b c d) e =
    grind (arith, ungraded_free row col a, ungraded_free row col b, ungraded_free row col c, ungraded_free row col d)

shown_in_cell : (t : Tree) (x : Spot) → Shows t x → 1 ≤ in_cell x.row x.col t
shown_in_cell t x h = let own : one_if (at_cell x.row x.col x) ≡ 1 = grind (arith, nat_tests) in omega (arith, shown_le (λ m. one_if (at_cell x.row x.col m)) t x h)

-- a cell has no grade and no mark, or the tree shows the mark with its grade
in_the_cell : (row col : ℕ) (t : Tree) → ((grade_in row col t ≡ None) × (in_cell row col t ≡ 0)) ⊎ ((g : ℕ) × (grade_in row col t ≡ Some g) × Shows t record { row = row; col = col; grade = g } × (1 ≤ in_cell row col t))
in_the_cell row col t =
    elim (grade_in row col t) as (λ o. grade_in row col t ≡ o → ((o ≡ None) × (in_cell row col t ≡ 0)) ⊎ ((g : ℕ) × (o ≡ Some g) × Shows t record { row = row; col = col; grade = g } × (1 ≤ in_cell row col t))) [
      | None ↦ λ e. inl (refl, ungraded_free row col t e)
      | Some g ↦ λ e. let v = graded_shown row col t g e in inr (g, refl, v, shown_in_cell t record { row = row; col = col; grade = g } v)
    ] refl

-- a cell has the grade of the mark that the tree shows there
pub shown_graded : (t : Tree) → Alone t → (x : Spot) → Shows t x → grade_in x.row x.col t ≡ Some x.grade
shown_graded t alone x h =
    elim (in_the_cell x.row x.col t) [
      | inl o ↦ absurd (omega (arith, o.1, shown_in_cell t x h))
      | inr r ↦ r.1 ∙ ap (λ (y : Spot). Some y.grade) (alone_lone t alone record { row = x.row; col = x.col; grade = r.0 } x r.2 h refl refl)
    ]

-- a cell has a grade where it has a mark
pub graded_in_cell : (t : Tree) → Alone t → (row col : ℕ) → one_if (is_some (grade_in row col t)) ≡ in_cell row col t
graded_in_cell t alone row col =
    elim (in_the_cell row col t) [ inl o ↦ rw o.0 (sym o.1) | inr r ↦ rw r.1 (omega (arith, alone row col, r.3)) ]

pub free_ungraded : (row col : ℕ) (t : Tree) → in_cell row col t ≡ 0 → grade_in row col t ≡ None
free_ungraded row col t z = elim (in_the_cell row col t) [ inl o ↦ o.0 | inr r ↦ absurd (omega (arith, r.3)) ]

-- a cell outside the square of a tree has no mark of it
outside_free : (k : Kind) (s : Square) (t : Tree) → Ordered k s t → (row col : ℕ) → (Within s row col → ⊥) → in_cell row col t ≡ 0
outside_free k s t h row col out =
    elim (in_the_cell row col t) [ inl o ↦ o.1 | inr r ↦ absurd (out (shown_holds k s t h record { row = row; col = col; grade = r.0 } r.2).inside) ]

-- what stands in a cell other than the root's mark stands in the quadrant of the cell
pub cell_in_quadrant : (k : Kind) (s : Square) (n : ℕ) (m : Spot) (a b c d : Tree)
    → Ordered k s (box n m a b c d)
    → (row col : ℕ)
    → at_cell row col m ≡ false
    → (q : Quadrant)
    → Within (quadrant q s) row col
    → in_cell row col (box n m a b c d) ≡ in_cell row col (pick a b c d q)
cell_in_quadrant k s n m a b c d h row col e q w = go q (λ p ne. outside_free k (quadrant p s) (pick a b c d p) (lawful_quadrant k s n m a b c d h p) row col (λ v. ne (one_quadrant s p q row col v w)))
  where
    go : (q : Quadrant) → ((p : Quadrant) → (p ≡ q → ⊥) → in_cell row col (pick a b c d p) ≡ 0) → in_cell row col (box n m a b c d) ≡ in_cell row col (pick a b c d q)
    go tl f = omega (arith, ap one_if e, f tr (λ z. cc), f bl (λ z. cc), f br (λ z. cc))
    go tr f = omega (arith, ap one_if e, f tl (λ z. cc), f bl (λ z. cc), f br (λ z. cc))
    go bl f = omega (arith, ap one_if e, f tl (λ z. cc), f tr (λ z. cc), f br (λ z. cc))
    go br f = omega (arith, ap one_if e, f tl (λ z. cc), f tr (λ z. cc), f bl (λ z. cc))

-- the grade in a cell once a tree has one mark more
pub gained : (m : Spot) (t u : Tree)
    → ((f : Spot → ℕ) → mark_sum f u ≡ f m + mark_sum f t)
    → Alone u
    → (row col : ℕ)
    → grade_in row col u ≡ cond (at_cell row col m) (Some m.grade) (grade_in row col t)
gained m t u more alone row col = go (at_cell row col m) refl
  where
    shows : (x : Spot) → 1 ≤ has x t + one_if (same x m) → Shows u x
    shows x h = has_shows x u (omega (arith, more (λ y. one_if (same x y))))

    other : at_cell row col m ≡ false → grade_in row col u ≡ grade_in row col t
    other z =
        elim (in_the_cell row col t) [
          | inl o ↦ free_ungraded row col u (omega (arith, more (λ y. one_if (at_cell row col y)), o.1, ap one_if z)) ∙ sym o.0
          | inr r ↦ let x : Spot = record { row = row; col = col; grade = r.0 } in
              shown_graded u alone x (shows x (omega (arith, shows_has x t r.2))) ∙ sym r.1
        ]

    go : (v : Bool) → at_cell row col m ≡ v → grade_in row col u ≡ cond v (Some m.grade) (grade_in row col t)
    go true e =
        let w = at_cell_is row col m e in
        rw (w.0, w.1) (shown_graded u alone m (shows m (omega (arith, has_self m m refl))))
    go false e = other e

-- and once it has one mark less
pub lost : (m : Spot) (t u : Tree)
    → ((f : Spot → ℕ) → mark_sum f t ≡ f m + mark_sum f u)
    → Alone t
    → (row col : ℕ)
    → grade_in row col u ≡ cond (at_cell row col m) None (grade_in row col t)
lost m t u less alone row col = go (at_cell row col m) refl (gained m u t less alone row col)
  where
    go : (v : Bool) → at_cell row col m ≡ v → grade_in row col t ≡ cond v (Some m.grade) (grade_in row col u) → grade_in row col u ≡ cond v None (grade_in row col t)
    go true e s = free_ungraded row col u (omega (arith, less (λ y. one_if (at_cell row col y)), alone row col, ap one_if e))
    go false e s = sym s

pub count_sum : (t : Tree) → count t ≡ mark_sum (λ _. 1) t
count_sum none = refl
count_sum (box i m a b c d) = omega (arith, count_sum a, count_sum b, count_sum c, count_sum d)
