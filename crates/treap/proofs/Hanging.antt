-- A box one of whose quadrants gets another tree: its sums, and when it is ordered.
use Rattle.std.proofs.Common.{◌≡◌, ℕ, ◌+◌, ◌^◌, ◌<◌, ◌≤◌, ◌⊎◌, refl, ap, inl, arith}
use Rattle.grade.specs.Kind.{Kind}
use Rattle.treap.specs.Spots.{Spot, Outranks}
use Rattle.treap.specs.Trees.{Quadrant, index, tl, tr, bl, br, Square, Within, quadrant, Tree, none, box, pick, Shows, Holds, Hangs, Ordered}
use Rattle.treap.specs.Sums.{one_if, mark_sum, number_sum, at_cell, Alone}
use Rattle.treap.specs.Changes.{More}
use Rattle.treap.proofs.Counts.{same, same_is, has_self, shows_has, has_shows, has_in_cell}

-- the box with the tree u in quadrant q
abbrev pub hung : ℕ → Spot → Tree → Tree → Tree → Tree → Quadrant → Tree → Tree
hung n m a b c d tl u = box n m u b c d
hung n m a b c d tr u = box n m a u c d
hung n m a b c d bl u = box n m a b u d
hung n m a b c d br u = box n m a b c u

pub hung_numbers : (f : ℕ → ℕ) (n : ℕ) (m w : Spot) (a b c d : Tree) (q : Quadrant) (u : Tree)
    → number_sum f (hung n w a b c d q u) + number_sum f (pick a b c d q) ≡ number_sum f (box n m a b c d) + number_sum f u
hung_numbers f n m w a b c d tl u = omega arith
hung_numbers f n m w a b c d q u = omega arith

pub hung_marks : (f : Spot → ℕ) (n : ℕ) (m w : Spot) (a b c d : Tree) (q : Quadrant) (u : Tree)
    → (mark_sum f (hung n w a b c d q u) + mark_sum f (pick a b c d q)) + f m ≡ (mark_sum f (box n m a b c d) + mark_sum f u) + f w
hung_marks f n m w a b c d tl u = omega arith
hung_marks f n m w a b c d q u = omega arith

-- a quadrant holds no more than its box
pub pick_numbers : (f : ℕ → ℕ) (n : ℕ) (m : Spot) (a b c d : Tree) (q : Quadrant) → f n + number_sum f (pick a b c d q) ≤ number_sum f (box n m a b c d)
pick_numbers f n m a b c d tl = omega arith
pick_numbers f n m a b c d q = omega arith

pub pick_marks : (f : Spot → ℕ) (n : ℕ) (m : Spot) (a b c d : Tree) (q : Quadrant) → f m + mark_sum f (pick a b c d q) ≤ mark_sum f (box n m a b c d)
pick_marks f n m a b c d tl = omega arith
pick_marks f n m a b c d q = omega arith

pub alone_quadrant : (n : ℕ) (m : Spot) (a b c d : Tree) → Alone (box n m a b c d) → (q : Quadrant) → Alone (pick a b c d q)
alone_quadrant n m a b c d h q row col = omega (arith, h row col, pick_marks (λ y. one_if (at_cell row col y)) n m a b c d q)

-- a box is ordered where its mark stands right and its quadrants are ordered, the new one among them
pub hung_ordered : (k : Kind) (s : Square) (n : ℕ) (w : Spot) (a b c d : Tree) (q : Quadrant) (u : Tree)
    → Holds k s w
    → ((p : Quadrant) → (index p ≡ index q → ⊥) → Hangs k s w (pick a b c d p))
    → ((p : Quadrant) → Ordered k (quadrant p s) (pick a b c d p))
    → Hangs k s w u
    → Ordered k (quadrant q s) u
    → Ordered k s (hung n w a b c d q u)
hung_ordered k s n w a b c d tl u h others rest hu ou =
    (h, (hu, others tr (λ e. omega arith), others bl (λ e. omega arith), others br (λ e. omega arith)), (ou, rest tr, rest bl, rest br))
hung_ordered k s n w a b c d tr u h others rest hu ou =
    (h, (others tl (λ e. omega arith), hu, others bl (λ e. omega arith), others br (λ e. omega arith)), (rest tl, ou, rest bl, rest br))
hung_ordered k s n w a b c d bl u h others rest hu ou =
    (h, (others tl (λ e. omega arith), others tr (λ e. omega arith), hu, others br (λ e. omega arith)), (rest tl, rest tr, ou, rest br))
hung_ordered k s n w a b c d br u h others rest hu ou =
    (h, (others tl (λ e. omega arith), others tr (λ e. omega arith), others bl (λ e. omega arith), hu), (rest tl, rest tr, rest bl, ou))

-- a tree hangs under a mark that outranks all it shows
pub hang : (k : Kind) (s : Square) (m : Spot) (t : Tree) → 0 < s.level → ((x : Spot) → Shows t x → Outranks k m x) → Hangs k s m t
hang k s m none pos f = tt
hang k s m (box i x a b c d) pos f = (pos, f x (inl refl))

-- a square of which a quadrant has a box has quadrants
pub has_quadrants : (k : Kind) (s : Square) (m : Spot) (t : Tree) (x : Spot) → Hangs k s m t → Shows t x → 0 < s.level
has_quadrants k s m none x h g = absurd g
has_quadrants k s m (box i y a b c d) x h g = h.0

-- two cells of a square of side 1 are one
pub one_cell : (s : Square) (r c row col : ℕ) → Within s r c → Within s row col → s.level ≡ 0 → (r ≡ row) × (c ≡ col)
one_cell s r c row col v w e = let z : 2 ^ s.level ≡ 1 = ap (λ (l : ℕ). 2 ^ l) e in (omega arith, omega arith)

-- what is shown by a tree with one mark more
pub shows_more : (m : Spot) (n : ℕ) (t u : Tree) → More m n t u → (x : Spot) → Shows u x → (x ≡ m) ⊎ Shows t x
shows_more m n t u h x g = grind (arith, same_is x m, has_shows x t, shows_has x u g, h.marks (λ y. one_if (same x y)))

pub shows_kept : (m : Spot) (n : ℕ) (t u : Tree) → More m n t u → (x : Spot) → Shows t x → Shows u x
shows_kept m n t u h x g = has_shows x u (omega (arith, shows_has x t g, h.marks (λ y. one_if (same x y))))

-- a mark that stands alone in its cell is not shown once it is gone
pub gone_is_gone : (m : Spot) (n : ℕ) (t u : Tree) → More m n u t → Alone t → Shows u m → ⊥
gone_is_gone m n t u h alone g =
    omega (arith, shows_has m u g, h.marks (λ y. one_if (same m y)), has_self m m refl, has_in_cell m t, alone m.row m.col)
