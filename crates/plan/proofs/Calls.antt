-- What an accepted and a refused call come to, and a plan that is opened.
use Rattle.std.proofs.Common.{◌≡◌, ℕ, Bool, true, false, cond, ◌||◌, eqb, ltb, List, length, is_some, Some, None, Option, Ok, sym, refl, ap, subst, arith, ltb-false, le-ltb}
use Rattle.std.specs.Option.{ok_or}
use Rattle.grade.specs.Kind.{Kind}
use Rattle.treap.specs.Spots.{Spot}
use Rattle.treap.specs.Trees.{Square, Tree, Shows}
use Rattle.treap.specs.Sums.{one_if, grade_in}
use Rattle.treap.specs.Ledgers.{open_refusal}
use Rattle.treap.specs.Entries.{plan_square}
use Rattle.treap.proofs.Cells.{shown_graded, free_ungraded}
use Rattle.boxtree.specs.declared.mark.Mark.{Mark}
use Rattle.boxtree.specs.Marks.{spot_of, spots_of}
use Rattle.plan.specs.declared.place.Place.{Place}
use Rattle.plan.specs.declared.refusal.PlanRefusal.{PlanRefusal}
use Rattle.plan.specs.Places.{cells}
use Rattle.plan.specs.Standing.{tree_in, Found, grade_of}
use Rattle.plan.specs.Plans.{root, plan_tree, on_plan, Shape, Marked}

module _ {G : Type 0} {kind : Kind} {code : G → ℕ} {h n : ℕ} {ps : List (Place G)} (s : Shape kind code h n ps) where
  -- the grade of a cell is that of the mark that is found there
  pub cell_graded : (row col : ℕ) {v : Square} → v ≡ plan_square h → {o : Option ℕ} → o ≡ root n → (r : Option Spot) → Found row col (tree_in v (cells code ps) o) r
      → grade_in row col (plan_tree code h n ps) ≡ grade_of r
  cell_graded row col ev {o} e r f =
      go r
      (subst (λ (y : Option ℕ). Found row col (tree_in (plan_square h) (cells code ps) y) r) e
      (subst (λ (x : Square). Found row col (tree_in x (cells code ps) o) r) ev f))
    where
      go : (r : Option Spot) → Found row col (plan_tree code h n ps) r → grade_in row col (plan_tree code h n ps) ≡ grade_of r
      go None f = free_ungraded row col (plan_tree code h n ps) f
      go (Some x) f = rw (← f.1, ← f.2) (shown_graded (plan_tree code h n ps) s.alone x f.0)

  -- a mark is found where the cell is taken
  pub found_taken : (row col : ℕ) (r : Option (Mark G)) → grade_in row col (plan_tree code h n ps) ≡ grade_of (spots_of code r) → is_some r ≡ is_some (grade_in row col (plan_tree code h n ps))
  found_taken row col None e = ap is_some (sym e)
  found_taken row col (Some m) e = ap is_some (sym e)

  -- what is known of a cell of the plan once its mark is sought
  pub located : (row col : ℕ) → on_plan h row col ≡ true → {v : Square} → v ≡ plan_square h → {o : Option ℕ} → o ≡ root n → (r : Option (Mark G)) → Found row col (tree_in v (cells code ps) o) (spots_of code r)
      → Marked code (record { h = h; count = n; places = ps }) row col r
  located row col on ev e r f =
      let graded = cell_graded row col ev e (spots_of code r) f in
      record {
        on = on;
        found = rw (ev, e) at f;
        taken = found_taken row col r graded;
        graded = graded;
      }

-- a mark that is found is shown
pub found_shown : {G : Type 0} (code : G → ℕ) (row col : ℕ) (t : Tree) (r : Option (Mark G)) (m : Mark G) (e : PlanRefusal) → Ok m ≡ ok_or r e → Found row col t (spots_of code r) → Shows t (spot_of code m)
found_shown code row col t None m e w f = absurd (cc w)
found_shown code row col t (Some x) m e w f = let same : x ≡ m = cc in rw same at f.0

-- a plan that may be opened is not too high and has not too many places
pub neither_fits : (a b : Bool) (x y : ℕ) → cond a (Some x) (cond b (Some y) None) ≡ None → (a ≡ false) × (b ≡ false)
neither_fits true b x y e = let z : ◌≡◌ {A = ℕ} 0 1 = cc in absurd (omega arith)
neither_fits false true x y e = let z : ◌≡◌ {A = ℕ} 0 1 = cc in absurd (omega arith)
neither_fits false false x y e = (refl, refl)

neither : (a b : Bool) → a || b ≡ false → b ≡ false
neither true b e = let z : ◌≡◌ {A = ℕ} 0 1 = cc in absurd (omega arith)
neither false b e = e

pub opened : {G : Type 0} (kind : Kind) (code : G → ℕ) (h : ℕ) (ps : List (Place G)) → open_refusal h (length ps) ≡ None → Shape kind code h 0 ps
opened kind code h ps e =
    let w = neither_fits (ltb 10 h) (eqb (length ps) 0 || ltb 65535 (length ps)) 1 2 e in
    record {
      height = ltb-false 10 h w.0;
      few = ltb-false 65535 (length ps) (neither (eqb (length ps) 0) (ltb 65535 (length ps)) w.1);
      room = omega arith;
      ordered = tt;
      alone = λ row col. omega arith;
      numbered = λ i. sym (ap one_if (le-ltb i 0 (omega arith)));
      counted = refl;
    }
