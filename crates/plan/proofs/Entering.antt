-- Entering a mark into a plan: when it is refused, and what the plan is afterwards.
use Rattle.std.proofs.Common.{◌≡◌, ℕ, zero, suc, ◌+◌, ◌<◌, ◌≤◌, Bool, true, false, eqb, List, length, is_some, Some, None, Option, sym, refl, ap, ◌∙◌, subst, arith, add-one, le-ltb}
use Rattle.std.proofs.lemmas.Bool.{false≢true}
use borrow.Author.Tests.{lt-leb}
use Rattle.grade.specs.Kind.{Kind}
use Rattle.treap.specs.Spots.{Spot, Fair}
use Rattle.treap.specs.Trees.{Square, Tree}
use Rattle.treap.specs.Sums.{one_if, at_cell, in_cell, held, Alone, grade_in}
use Rattle.treap.specs.Ledgers.{Ledger, enter, refusal, full, entries, changed}
use Rattle.treap.specs.Entries.{plan_square}
use Rattle.treap.specs.Changes.{Gains}
use Rattle.treap.proofs.Counts.{at_cell_is}
use Rattle.treap.proofs.Cells.{ungraded_free, gained, count_sum}
use Rattle.plan.specs.declared.place.Place.{Place}
use Rattle.plan.specs.Places.{cells}
use Rattle.plan.specs.Standing.{tree_in, Sinks, Sunk, place_or}
use Rattle.plan.specs.Plans.{root, plan_tree, Shape, ledger_at, on_plan, Done}
use Rattle.plan.proofs.Shapes.{whole_is, inside_whole, stands_whole, marks_counted, one_more}

module _ {G : Type 0} {kind : Kind} {code : G → ℕ} {h n : ℕ} {ps : List (Place G)} (s : Shape kind code h n ps) (m : Spot) (on : on_plan h m.row m.col ≡ true)
    (untaken : is_some (grade_in m.row m.col (plan_tree code h n ps)) ≡ false) (room : n < length ps) where
  abbrev l : Ledger
  l = ledger_at code h n ps

  vacant : grade_in m.row m.col (plan_tree code h n ps) ≡ None
  vacant = elim (grade_in m.row m.col (plan_tree code h n ps)) as (λ o. is_some o ≡ false → o ≡ None) [ None ↦ λ _. refl | Some g ↦ λ e. absurd (false≢true (sym e)) ] untaken

  free : in_cell m.row m.col (plan_tree code h n ps) ≡ 0
  free = ungraded_free m.row m.col (plan_tree code h n ps) vacant

  module _ {v : Square} (ev : v ≡ plan_square h) {o : Option ℕ} (eo : o ≡ root n) where
    pub put_asks : Fair kind m → Sinks kind v (length ps) m n (tree_in v (cells code ps) o)
    put_asks fair =
        record {
          stands = stands_whole s ev eo;
          holds = record { fair = fair; inside = rw ev (inside_whole h m.row m.col on) };
          free = ap (in_cell m.row m.col) tree ∙ free;
          unused = ap (held n) tree ∙ s.numbered n ∙ ap one_if (le-ltb n n (omega arith));
          room = room;
        }
      where
        tree : tree_in v (cells code ps) o ≡ plan_tree code h n ps
        tree = whole_is s ev eo

    module _ (qs : List (Place G)) (same : length qs ≡ length ps) {r : ℕ} (done : Sunk kind v m n (cells code ps) o (cells code qs) r) where
      sunk : Sunk kind (plan_square h) m n (cells code ps) o (cells code qs) r
      sunk = subst (λ (x : Square). Sunk kind x m n (cells code ps) o (cells code qs) r) ev done

      root_is : Some r ≡ root (suc n)
      root_is = ap Some (sunk.root ∙ ap (place_or n) eo ∙ go n)
        where
          go : (x : ℕ) → place_or x (root x) ≡ 0
          go zero = refl
          go (suc x) = refl

      tree_is : tree_in (plan_square h) (cells code qs) (Some r) ≡ plan_tree code h (suc n) qs
      tree_is = ap (tree_in (plan_square h) (cells code qs)) root_is

      gains : Gains kind (plan_square h) m n (plan_tree code h n ps) (plan_tree code h (suc n) qs)
      gains =
          subst (λ (t : Tree). Gains kind (plan_square h) m n t (plan_tree code h (suc n) qs)) (ap (tree_in (plan_square h) (cells code ps)) eo)
          (subst (Gains kind (plan_square h) m n (tree_in (plan_square h) (cells code ps) o)) tree_is sunk.gains)

      alone : Alone (plan_tree code h (suc n) qs)
      alone row col = go (at_cell row col m) refl
        where
          more : in_cell row col (plan_tree code h (suc n) qs) ≡ one_if (at_cell row col m) + in_cell row col (plan_tree code h n ps)
          more = gains.more.marks (λ y. one_if (at_cell row col y))

          go : (v : Bool) → at_cell row col m ≡ v → in_cell row col (plan_tree code h (suc n) qs) ≤ 1
          go true e =
              let w = at_cell_is row col m e in
              let z : in_cell row col (plan_tree code h n ps) ≡ 0 = rw (w.0, w.1) free in
              omega (arith, more, ap one_if e)
          go false e = omega (arith, more, ap one_if e, s.alone row col)

      shape : Shape kind code h (suc n) qs
      shape =
          record {
            height = s.height;
            few = omega (arith, s.few);
            room = omega arith;
            ordered = gains.ordered;
            alone = alone;
            numbered = λ i. gains.more.numbers (λ x. one_if (eqb i x)) ∙ ap (λ (x : ℕ). one_if (eqb i n) + x) (s.numbered i) ∙ one_more i n;
            counted = omega (arith, count_sum (plan_tree code h (suc n) qs), count_sum (plan_tree code h n ps), gains.more.marks (λ _. 1), s.counted);
          }

      accepts : refusal l (enter m) ≡ None
      accepts =
          let f : full l ≡ false = lt-leb (length ps) (length (entries l)) (omega (arith, marks_counted s)) in
          rw (on, vacant, f)

      next_is : ledger_at code h (suc n) qs ≡ changed l (enter m)
      next_is = λ i. record {
        level = h;
        places = same i;
        grade = λ row col. gained m (plan_tree code h n ps) (plan_tree code h (suc n) qs) gains.more.marks alone row col i;
      }

      pub put_does : Done kind code h (n + 1) l (enter m) qs
      put_does =
          subst (λ (x : ℕ). Done kind code h x l (enter m) qs) (sym (add-one n)) (record { shape = shape; accepts = accepts; next_is = next_is })
