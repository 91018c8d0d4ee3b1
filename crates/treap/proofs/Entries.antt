-- A lawful tree and its ledger tell each other.
use Rattle.std.proofs.Common.{◌≡◌, ℕ, zero, suc, ◌^◌, ◌<◌, List, [], ◌∷◌, Some, Option, sym, refl, ap, ◌∙◌, subst, inl, inr, arith}
use native.Mathlib.Decide.{dec_lt}
use Rattle.grade.specs.Kind.{Kind}
use Rattle.treap.specs.Spots.{Spot}
use Rattle.treap.specs.Trees.{tl, tr, bl, br, Square, quadrant, Tree, none, box, Shows, Ordered, In, unnumbered}
use Rattle.treap.specs.Ledgers.{entry, row_entries, rows_entries, entries}
use Rattle.treap.specs.Sums.{Alone, grade_in, ledger_of}
use Rattle.treap.specs.Plants.{best, share, plant_at, plant, Planted}
use Rattle.treap.specs.Entries.{plan_square, LedgerTree, SameMarksSameTree}
use Rattle.treap.proofs.Lists.{in_append, in_first, in_last}
use Rattle.treap.proofs.Shown.{shown_holds, one_tree_lem}
use Rattle.treap.proofs.Plants.{some_tree_lem}
use Rattle.treap.proofs.Cells.{alone_lone, graded_shown, shown_graded}
use Rattle.treap.proofs.Grids.{length_entries}

-- the mark x is the grade o of the cell
in_entry : (row col : ℕ) (o : Option ℕ) (x : Spot)
    → In (entry row col o) x
    → (x.row ≡ row) × (x.col ≡ col) × (o ≡ Some x.grade)
in_entry row col o x h = grind arith

entry_has : (x : Spot) (o : Option ℕ) → o ≡ Some x.grade → In (entry x.row x.col o) x
entry_has x o e = grind arith

module _ (grade : ℕ → ℕ → Option ℕ) where
  in_row : (row n : ℕ) (x : Spot) → In (row_entries grade row n) x → (x.row ≡ row) × (grade x.row x.col ≡ Some x.grade)
  in_row row zero x h = absurd h
  in_row row (suc n) x h =
      elim (in_append (row_entries grade row n) (entry row n (grade row n)) x h) [
        | inl g ↦ in_row row n x g
        | inr g ↦ let e = in_entry row n (grade row n) x g in (e.0, rw (e.0, e.1) e.2)
      ]

  in_rows : (w n : ℕ) (x : Spot) → In (rows_entries grade w n) x → grade x.row x.col ≡ Some x.grade
  in_rows w zero x h = absurd h
  in_rows w (suc n) x h =
      elim (in_append (rows_entries grade w n) (row_entries grade n w) x h) [ inl g ↦ in_rows w n x g | inr g ↦ (in_row n w x g).1 ]

  row_has : (n : ℕ) (x : Spot) → x.col < n → grade x.row x.col ≡ Some x.grade → In (row_entries grade x.row n) x
  row_has zero x c e = absurd (omega arith)
  row_has (suc n) x c e =
      elim (dec_lt x.col n) [
        | yes b ↦ in_first (row_entries grade x.row n) (entry x.row n (grade x.row n)) x (row_has n x b e)
        | no b ↦ let q : x.col ≡ n = omega arith in
            in_last (row_entries grade x.row n) (entry x.row n (grade x.row n)) x
            (subst (λ (i : ℕ). In (entry x.row i (grade x.row i)) x) q (entry_has x (grade x.row x.col) e))
      ]

  rows_has : (w n : ℕ) (x : Spot) → x.row < n → x.col < w → grade x.row x.col ≡ Some x.grade → In (rows_entries grade w n) x
  rows_has w zero x r c e = absurd (omega arith)
  rows_has w (suc n) x r c e =
      elim (dec_lt x.row n) [
        | yes b ↦ in_first (rows_entries grade w n) (row_entries grade n w) x (rows_has w n x b c e)
        | no b ↦ let q : x.row ≡ n = omega arith in
            in_last (rows_entries grade w n) (row_entries grade n w) x (subst (λ (i : ℕ). In (row_entries grade i w) x) q (row_has w x c e))
      ]

unnumbered_plant : (k : Kind) (level : ℕ) (s : Square) (l : List Spot) → unnumbered (plant_at k level s l) ≡ plant_at k level s l
unnumbered_plant k level s [] = refl
unnumbered_plant k zero s (y ∷ l) = refl
unnumbered_plant k (suc level) s (y ∷ l) =
    let m = best k y l in
    cc (
      unnumbered_plant k level (quadrant tl s) (share k m (quadrant tl s) (y ∷ l)),
      unnumbered_plant k level (quadrant tr s) (share k m (quadrant tr s) (y ∷ l)),
      unnumbered_plant k level (quadrant bl s) (share k m (quadrant bl s) (y ∷ l)),
      unnumbered_plant k level (quadrant br s) (share k m (quadrant br s) (y ∷ l)),
    )

-- what an ordered tree of a plan shows lies on the plan
pub shown_on_plan : (k : Kind) (level : ℕ) (t : Tree)
    → Ordered k (plan_square level) t
    → (x : Spot)
    → Shows t x
    → (x.row < 2 ^ level) × (x.col < 2 ^ level)
shown_on_plan k level t ordered x h = let w = (shown_holds k (plan_square level) t ordered x h).inside in (omega arith, omega arith)

pub ledger_tree_lem : LedgerTree
ledger_tree_lem k L level places t ordered alone =
    record {
      graded = shown_graded t alone;
      marked = λ row col g e. graded_shown row col t g e;
      shown = shown;
      listed = listed;
      counted = length_entries level places t alone on_plan;
      planted =
          one_tree_lem k L s t (plant k s l) ordered tree.ordered (λ x h. tree.shown x (listed x h)) (λ x h. shown x (tree.listed x h))
          ∙ unnumbered_plant k level s l;
    }
  where
    s : Square
    s = plan_square level

    l : List Spot
    l = entries (ledger_of level places t)

    on_plan : (x : Spot) → Shows t x → (x.row < 2 ^ level) × (x.col < 2 ^ level)
    on_plan = shown_on_plan k level t ordered

    shown : (x : Spot) → In l x → Shows t x
    shown x h = graded_shown x.row x.col t x.grade (in_rows (λ row col. grade_in row col t) (2 ^ level) (2 ^ level) x h)

    listed : (x : Spot) → Shows t x → In l x
    listed x h =
        rows_has (λ row col. grade_in row col t) (2 ^ level) (2 ^ level) x (on_plan x h).0 (on_plan x h).1 (shown_graded t alone x h)

    tree : Planted k s l (plant k s l)
    tree =
        some_tree_lem k L s l (λ x h. shown_holds k s t ordered x (shown x h))
        (λ x y hx hy. alone_lone t alone x y (shown x hx) (shown y hy))

grade_in_unnumbered : (row col : ℕ) (t : Tree) → grade_in row col (unnumbered t) ≡ grade_in row col t
grade_in_unnumbered row col none = refl
grade_in_unnumbered row col (box i m a b c d) =
    cc (grade_in_unnumbered row col a, grade_in_unnumbered row col b, grade_in_unnumbered row col c, grade_in_unnumbered row col d)

-- the marks of one tree are in another that has the same grades
same_shown : (t u : Tree)
    → Alone t
    → ((row col : ℕ) → grade_in row col t ≡ grade_in row col u)
    → (x : Spot)
    → Shows t x
    → Shows u x
same_shown t u alone same x h = graded_shown x.row x.col u x.grade (sym (same x.row x.col) ∙ shown_graded t alone x h)

pub same_marks_same_tree_lem : SameMarksSameTree
same_marks_same_tree_lem k L s t u ordered-t ordered-u alone-t alone-u = (
  λ same. one_tree_lem k L s t u ordered-t ordered-u (same_shown t u alone-t same) (same_shown u t alone-u (λ row col. sym (same row col))),
  λ e row col. sym (grade_in_unnumbered row col t) ∙ ap (grade_in row col) e ∙ grade_in_unnumbered row col u,
)
