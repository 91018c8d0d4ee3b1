-- The sum over the cells of a grid, and how many marks a ledger has there.
use Rattle.std.proofs.Common.{◌≡◌, ℕ, zero, suc, ◌+◌, ◌^◌, ◌<◌, Bool, true, ◌&&◌, eqb, ltb, length, is_some, Option, sym, refl, ◌∙◌, inl, arith, length-append}
use Rattle.std.proofs.lemmas.Bool.Decides.{nat_tests}
use Rattle.treap.specs.Spots.{Spot}
use Rattle.treap.specs.Trees.{Quadrant, tl, tr, bl, br, Tree, none, box, pick, Shows, count}
use Rattle.treap.specs.Ledgers.{entry, row_entries, rows_entries, entries}
use Rattle.treap.specs.Sums.{one_if, mark_sum, at_cell, in_cell, Alone, grade_in, ledger_of}
use Rattle.treap.proofs.Shown.{below}
use Rattle.treap.proofs.Cells.{mark_sum_add, one_if_tells, graded_in_cell}

-- the sum of f over the numbers below n
abbrev sum_below : (ℕ → ℕ) → ℕ → ℕ
sum_below f zero = 0
sum_below f (suc n) = sum_below f n + f n

sum_below_same : (f g : ℕ → ℕ) (n : ℕ) → ((i : ℕ) → f i ≡ g i) → sum_below f n ≡ sum_below g n
sum_below_same f g zero h = refl
sum_below_same f g (suc n) h = omega (arith, sum_below_same f g n h, h n)

mark_sum_zero : (t : Tree) → mark_sum (λ m. 0) t ≡ 0
mark_sum_zero none = refl
mark_sum_zero (box i m a b c d) = omega (arith, mark_sum_zero a, mark_sum_zero b, mark_sum_zero c, mark_sum_zero d)

-- a sum of sums over the marks is a sum over the marks
sum_below_marks : (f : ℕ → Spot → ℕ) (t : Tree) (n : ℕ)
    → sum_below (λ i. mark_sum (f i) t) n ≡ mark_sum (λ m. sum_below (λ i. f i m) n) t
sum_below_marks f t zero = sym (mark_sum_zero t)
sum_below_marks f t (suc n) =
    omega (arith, sum_below_marks f t n, mark_sum_add (λ m. sum_below (λ i. f i m) n) (λ m. f n m) t)

-- one number below n is k, if k is below n
one_below : (b : Bool) (k n : ℕ) → sum_below (λ i. one_if (b && eqb i k)) n ≡ one_if (b && ltb k n)
one_below b k zero = grind (arith, nat_tests, one_if_tells)
one_below b k (suc n) = let rest = one_below b k n in grind (arith, nat_tests, one_if_tells)

-- the sum of f over the cells of the first n rows and the first w columns
abbrev grid_sum : (ℕ → ℕ → ℕ) → ℕ → ℕ → ℕ
grid_sum f w n = sum_below (λ row. sum_below (f row) w) n

grid_sum_same : (f g : ℕ → ℕ → ℕ) (w n : ℕ) → ((row col : ℕ) → f row col ≡ g row col) → grid_sum f w n ≡ grid_sum g w n
grid_sum_same f g w n h =
    sum_below_same (λ row. sum_below (f row) w) (λ row. sum_below (g row) w) n (λ row. sum_below_same (f row) (g row) w (h row))

grid_sum_marks : (f : ℕ → ℕ → Spot → ℕ) (t : Tree) (w n : ℕ)
    → grid_sum (λ row col. mark_sum (f row col) t) w n ≡ mark_sum (λ m. grid_sum (λ row col. f row col m) w n) t
grid_sum_marks f t w n =
    sum_below_same (λ row. sum_below (λ col. mark_sum (f row col) t) w) (λ row. mark_sum (λ m. sum_below (λ col. f row col m) w) t) n
    (λ row. sum_below_marks (f row) t w)
    ∙ sum_below_marks (λ row m. sum_below (λ col. f row col m) w) t n

-- a mark in the grid stands in one of its cells
one_cell : (m : Spot) (w n : ℕ) → m.row < n → m.col < w → grid_sum (λ row col. one_if (at_cell row col m)) w n ≡ 1
one_cell m w n r c =
    sum_below_same (λ row. sum_below (λ col. one_if (at_cell row col m)) w) (λ row. one_if (eqb row m.row)) n
    (λ row. one_below (eqb row m.row) m.col w ∙ inside row)
    ∙ one_below true m.row n
    ∙ grind (arith, nat_tests, one_if_tells)
  where
    inside : (row : ℕ) → one_if (eqb row m.row && ltb m.col w) ≡ one_if (eqb row m.row)
    inside row = grind (arith, nat_tests, one_if_tells)

-- one for each mark that the tree shows
mark_sum_ones : (f : Spot → ℕ) (t : Tree) → ((x : Spot) → Shows t x → f x ≡ 1) → mark_sum f t ≡ count t
mark_sum_ones f none h = refl
mark_sum_ones f (box i m a b c d) h =
    let each : (q : Quadrant) (x : Spot) → Shows (pick a b c d q) x → f x ≡ 1 = λ q x g. h x (below a b c d i m x q g) in
    omega (arith, h m (inl refl), mark_sum_ones f a (each tl), mark_sum_ones f b (each tr), mark_sum_ones f c (each bl), mark_sum_ones f d (each br))

length_entry : (row col : ℕ) (o : Option ℕ) → length (entry row col o) ≡ one_if (is_some o)
length_entry row col o = grind arith

length_row : (grade : ℕ → ℕ → Option ℕ) (row n : ℕ)
    → length (row_entries grade row n) ≡ sum_below (λ col. one_if (is_some (grade row col))) n
length_row grade row zero = refl
length_row grade row (suc n) =
    omega (arith, length-append (row_entries grade row n) (entry row n (grade row n)), length_row grade row n, length_entry row n (grade row n))

length_rows : (grade : ℕ → ℕ → Option ℕ) (w n : ℕ)
    → length (rows_entries grade w n) ≡ grid_sum (λ row col. one_if (is_some (grade row col))) w n
length_rows grade w zero = refl
length_rows grade w (suc n) =
    omega (arith, length-append (rows_entries grade w n) (row_entries grade n w), length_rows grade w n, length_row grade n w)

-- the ledger has as many marks as the tree has boxes
pub length_entries : (level places : ℕ) (t : Tree)
    → Alone t
    → ((x : Spot) → Shows t x → (x.row < 2 ^ level) × (x.col < 2 ^ level))
    → length (entries (ledger_of level places t)) ≡ count t
length_entries level places t alone inside =
    length_rows (λ row col. grade_in row col t) side side
    ∙ grid_sum_same (λ row col. one_if (is_some (grade_in row col t))) (λ row col. in_cell row col t) side side
    (graded_in_cell t alone)
    ∙ grid_sum_marks (λ row col m. one_if (at_cell row col m)) t side side
    ∙ mark_sum_ones (λ m. grid_sum (λ row col. one_if (at_cell row col m)) side side) t
    (λ x h. one_cell x side side (inside x h).0 (inside x h).1)
  where
    side : ℕ
    side = 2 ^ level
