-- What the shape of a plan gives: its tree stands in its places, it is lawful, and its ledger has its marks.
use Rattle.std.proofs.Common.{◌≡◌, ℕ, suc, ◌+◌, ◌^◌, ◌<◌, ◌≤◌, Bool, true, false, eqb, ltb, List, length, Option, sym, refl, ap, ◌∙◌, subst, arith, pow_mono, ltb-false, ltb-true, le-ltb, lt-ltb, eqb-true}
use borrow.Author.Tests.{eqb-false}
use Rattle.grade.specs.Kind.{Kind, Laws}
use Rattle.treap.specs.Trees.{Square, Within, Lawful}
use Rattle.treap.specs.Sums.{one_if}
use Rattle.treap.specs.Ledgers.{entries}
use Rattle.treap.specs.Entries.{plan_square, Recorded}
use Rattle.treap.proofs.Counts.{one_if_le, both_true, true_both}
use Rattle.treap.proofs.Cells.{alone_lone}
use Rattle.treap.proofs.Numbers.{single_apart}
use Rattle.treap.proofs.Shown.{shown_holds}
use Rattle.treap.proofs.Grids.{length_entries}
use Rattle.treap.proofs.Entries.{ledger_tree_lem}
use Rattle.plan.specs.declared.place.Place.{Place}
use Rattle.plan.specs.Squares.{Fits}
use Rattle.plan.specs.Places.{cells}
use Rattle.plan.specs.Standing.{tree_in, Stands}
use Rattle.plan.specs.Plans.{root, plan_tree, Shape, ledger_at, on_plan}

side_fits : (h : ℕ) → h ≤ 10 → 0 + 2 ^ h ≤ 1024
side_fits h low = omega (arith, pow_mono low)

pub fits_whole : (h : ℕ) → h ≤ 10 → Fits (plan_square h)
fits_whole h low = record { level = low; rows = side_fits h low; cols = side_fits h low }

pub inside_whole : (h row col : ℕ) → on_plan h row col ≡ true → Within (plan_square h) row col
inside_whole h row col e =
    let w = both_true (ltb row (2 ^ h)) (ltb col (2 ^ h)) e in
    let r : row < 0 + 2 ^ h = omega (arith, ltb-true row (2 ^ h) w.0) in
    let c : col < 0 + 2 ^ h = omega (arith, ltb-true col (2 ^ h) w.1) in
    record { not_above = omega arith; not_below = r; not_left = omega arith; not_right = c }

pub whole_inside : (h row col : ℕ) → Within (plan_square h) row col → on_plan h row col ≡ true
whole_inside h row col w =
    true_both (ltb row (2 ^ h)) (ltb col (2 ^ h)) (lt-ltb row (2 ^ h) (omega (arith, w.not_below))) (lt-ltb col (2 ^ h) (omega (arith, w.not_right)))

below_count : (i n bound : ℕ) → n ≤ bound → bound ≤ i → one_if (ltb i n) ≡ 0
below_count i n bound low high = let e : n ≤ i = omega arith in ap one_if (le-ltb i n e)

module _ {G : Type 0} {kind : Kind} {code : G → ℕ} {h n : ℕ} {ps : List (Place G)} (s : Shape kind code h n ps) where
  -- the tree of a plan is that of its square and its root
  pub whole_is : {v : Square} → v ≡ plan_square h → {o : Option ℕ} → o ≡ root n → tree_in v (cells code ps) o ≡ plan_tree code h n ps
  whole_is ev {o} e = ap (λ (x : Square). tree_in x (cells code ps) o) ev ∙ ap (tree_in (plan_square h) (cells code ps)) e

  pub stands_whole : {v : Square} → v ≡ plan_square h → {o : Option ℕ} → o ≡ root n → Stands kind v (length ps) (tree_in v (cells code ps) o)
  stands_whole ev {o} e =
      subst (λ (x : Square). Stands kind x (length ps) (tree_in x (cells code ps) o)) (sym ev)
      (subst (λ (x : Option ℕ). Stands kind (plan_square h) (length ps) (tree_in (plan_square h) (cells code ps) x)) (sym e)
      (record {
        fits = fits_whole h s.height;
        few = s.few;
        ordered = s.ordered;
        alone = s.alone;
        single = λ i. omega (arith, s.numbered i, one_if_le (ltb i n));
        under = λ i low. s.numbered i ∙ below_count i n (length ps) s.room low;
      }))

  pub recorded : Laws kind → Recorded kind (plan_square h) (plan_tree code h n ps) (ledger_at code h n ps)
  recorded laws = ledger_tree_lem kind laws h (length ps) (plan_tree code h n ps) s.ordered s.alone

  -- the ledger has as many marks as the plan
  pub marks_counted : length (entries (ledger_at code h n ps)) ≡ n
  marks_counted =
      length_entries h (length ps) (plan_tree code h n ps) s.alone
      (λ x e. let w = (shown_holds kind (plan_square h) (plan_tree code h n ps) s.ordered x e).inside in (omega (arith, w.not_below), omega (arith, w.not_right)))
      ∙ s.counted

  -- there are no more marks than places
  pub marks_fit : length (entries (ledger_at code h n ps)) ≤ length ps
  marks_fit = omega (arith, marks_counted, s.room)

  pub lawful : Lawful kind (record { square = plan_square h; ceiling = n; tree = plan_tree code h n ps })
  lawful =
      record {
        rows = side;
        cols = side;
        counted = omega (arith, s.counted);
        ordered = s.ordered;
        lone = alone_lone (plan_tree code h n ps) s.alone;
        apart = single_apart (plan_tree code h n ps) (λ i. omega (arith, s.numbered i, one_if_le (ltb i n)));
      }
    where
      side : 0 + 2 ^ h ≤ 65536
      side = omega (arith, side_fits h s.height)

-- the numbers below n + 1 are n and those below n
pub one_more : (i n : ℕ) → one_if (eqb i n) + one_if (ltb i n) ≡ one_if (ltb i (suc n))
one_more i n = go (eqb i n) (ltb i n) refl refl
  where
    go : (u v : Bool) → eqb i n ≡ u → ltb i n ≡ v → one_if u + one_if v ≡ one_if (ltb i (suc n))
    go true true e f = absurd (omega (arith, eqb-true i n e, ltb-true i n f))
    go true false e f = let w : i < suc n = omega (arith, eqb-true i n e) in rw (lt-ltb i (suc n) w)
    go false true e f = let w : i < suc n = omega (arith, ltb-true i n f) in rw (lt-ltb i (suc n) w)
    go false false e f =
        let ne' : i ≡ n → ⊥ = eqb-false i n e in
        let w : suc n ≤ i = omega (arith, ltb-false i n f) in rw (le-ltb i (suc n) w)
