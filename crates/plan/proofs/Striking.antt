-- Striking a mark from a plan: when it is refused, and what the plan is afterwards.
use Rattle.std.proofs.Common.{◌≡◌, ℕ, zero, suc, ◌+◌, ◌-◌, ◌<◌, ◌≤◌, Bool, true, false, cond, eqb, ltb, ◌⊎◌, List, length, Some, None, Option, sym, refl, ap, ◌∙◌, subst, inl, inr, arith, ltb-true, le-ltb, lt-ltb}
use Rattle.grade.specs.Kind.{Kind}
use Rattle.treap.specs.Spots.{Spot}
use Rattle.treap.specs.Trees.{Square, Tree, Shows, Ordered}
use Rattle.treap.specs.Sums.{one_if, mark_sum, at_cell, held, Alone, grade_in}
use Rattle.treap.specs.Ledgers.{Ledger, strike, graded, accepted, refusal, changed}
use Rattle.treap.specs.Entries.{plan_square}
use Rattle.treap.specs.Changes.{Loses}
use Rattle.treap.proofs.Counts.{one_is, none_is, one_if_le}
use Rattle.treap.proofs.Shown.{shown_holds}
use Rattle.treap.proofs.Cells.{shown_graded, lost, count_sum}
use Rattle.plan.specs.declared.place.Place.{Place}
use Rattle.plan.specs.Places.{cells}
use Rattle.plan.specs.Standing.{tree_in, Stands, Lifted, Moves, Moved}
use Rattle.plan.specs.Plans.{root, plan_tree, Shape, ledger_at, Done}
use Rattle.plan.proofs.Shapes.{fits_whole, stands_whole, whole_inside, one_more}

some_root : (n : ℕ) → 1 ≤ n → root n ≡ Some 0
some_root zero h = absurd (omega arith)
some_root (suc n) h = refl

-- a tree that shows a mark has its root in place 0
rooted_at : {G : Type 0} (code : G → ℕ) (h n : ℕ) (ps : List (Place G)) (m : Spot) → Shows (plan_tree code h n ps) m → root n ≡ Some 0
rooted_at code h zero ps m e = absurd e
rooted_at code h (suc n) ps m e = refl

-- a mark m that the plan shows
module _ {G : Type 0} {kind : Kind} {code : G → ℕ} {h n : ℕ} {ps : List (Place G)} (s : Shape kind code h n ps) (m : Spot) (shown : Shows (plan_tree code h n ps) m) where
  abbrev l : Ledger
  l = ledger_at code h n ps

  abbrev t : Tree
  t = plan_tree code h n ps

  at_0 : root n ≡ Some 0
  at_0 = rooted_at code h n ps m shown

  pub at_root : {v : Square} → v ≡ plan_square h → Stands kind v (length ps) (tree_in v (cells code ps) (Some 0))
  at_root ev = stands_whole s ev (sym at_0)

  graded_is : grade_in m.row m.col t ≡ Some m.grade
  graded_is = shown_graded t s.alone m shown

  pub take_answers : accepted l (strike m.row m.col) ≡ graded m.grade
  take_answers = rw graded_is

  accepts : refusal l (strike m.row m.col) ≡ None
  accepts = let on = whole_inside h m.row m.col (shown_holds kind (plan_square h) t s.ordered m shown).inside in rw (on, graded_is)

  -- what is left in the places, with the tree v at the root
  struck : (k : ℕ) → k + 1 ≡ n → (qs : List (Place G)) → length qs ≡ length ps → (v : Tree) → plan_tree code h k qs ≡ v → Ordered kind (plan_square h) v
      → ((f : Spot → ℕ) → mark_sum f t ≡ f m + mark_sum f v)
      → ((i : ℕ) → held i v ≡ one_if (ltb i k))
      → Done kind code h k l (strike m.row m.col) qs
  struck k ek qs same v ev ordered less numbered =
      record {
        shape =
            record {
              height = s.height;
              few = omega (arith, s.few);
              room = omega (arith, s.room);
              ordered = subst (Ordered kind (plan_square h)) (sym ev) ordered;
              alone = λ r c. omega (arith, less' (λ y. one_if (at_cell r c y)), s.alone r c);
              numbered = λ i. ap (held i) ev ∙ numbered i;
              counted = omega (arith, count_sum (plan_tree code h k qs), count_sum t, less' (λ _. 1), s.counted);
            };
        accepts = accepts;
        next_is = λ i. record { level = h; places = same i; grade = λ r c. (lost m t (plan_tree code h k qs) less' s.alone r c ∙ at_own r c) i };
      }
    where
      less' : (f : Spot → ℕ) → mark_sum f t ≡ f m + mark_sum f (plan_tree code h k qs)
      less' f = less f ∙ ap (λ (u : Tree). f m + mark_sum f u) (sym ev)

      at_own : (r c : ℕ) → cond (at_cell r c m) None (grade_in r c t) ≡ (changed l (strike m.row m.col)).grade r c
      at_own r c = refl

  module _ {v : Square} (ev : v ≡ plan_square h) (qs : List (Place G)) (same : length qs ≡ length ps) {r : Option ℕ} {hole : ℕ} (done : Lifted kind v m (cells code ps) (Some 0) (cells code qs) r hole) where
    lifted : Lifted kind (plan_square h) m (cells code ps) (Some 0) (cells code qs) r hole
    lifted = subst (λ (x : Square). Lifted kind x m (cells code ps) (Some 0) (cells code qs) r hole) ev done

    abbrev u : Tree
    u = tree_in (plan_square h) (cells code qs) r

    loses : Loses kind (plan_square h) m hole t u
    loses = subst (λ (x : Option ℕ). Loses kind (plan_square h) m hole (tree_in (plan_square h) (cells code ps) x) u) (sym at_0) lifted.loses

    held_left : (i : ℕ) → one_if (ltb i n) ≡ one_if (eqb i hole) + held i u
    held_left i = sym (s.numbered i) ∙ loses.less.numbers (λ x. one_if (eqb i x))

    hole_low : hole < n
    hole_low = go (ltb hole n) refl
      where
        go : (v : Bool) → ltb hole n ≡ v → hole < n
        go true e = ltb-true hole n e
        go false e = absurd (omega (arith, held_left hole, ap one_if e, one_is hole hole refl))

    some_marks : 1 ≤ n
    some_marks = omega (arith, hole_low)

    below_last : (i : ℕ) → one_if (eqb i (n - 1)) + one_if (ltb i (n - 1)) ≡ one_if (ltb i n)
    below_last i = let e : suc (n - 1) ≡ n = omega (arith, some_marks) in subst (λ (x : ℕ). one_if (eqb i (n - 1)) + one_if (ltb i (n - 1)) ≡ one_if (ltb i x)) e (one_more i (n - 1))

    size_left : mark_sum (λ _. 1) u + 1 ≡ n
    size_left = omega (arith, loses.less.marks (λ _. 1), count_sum t, s.counted)

    -- the root is still in place 0, unless no mark is left
    rooted : r ≡ root (n - 1)
    rooted = go (n - 1) (n - 1 + 1) lifted.root refl
      where
        size_none : r ≡ None → n - 1 ≡ 0
        size_none e = omega (arith, size_left, ap (λ (x : Option ℕ). mark_sum (λ _. 1) (tree_in (plan_square h) (cells code qs) x)) e)

        size_some : (x : ℕ) → r ≡ Some x → 1 ≤ n - 1
        size_some x e = omega (arith, size_left, ap (λ (y : Option ℕ). mark_sum (λ _. 1) (tree_in (plan_square h) (cells code qs) y)) e)

        go : (k j : ℕ) → (r ≡ None) ⊎ (r ≡ Some 0) → n - 1 ≡ k → r ≡ root k
        go zero j (inl e) z = e
        go (suc k) j (inl e) z = absurd (omega (arith, size_none e))
        go zero j (inr e) z = absurd (omega (arith, size_some 0 e))
        go (suc k) j (inr e) z = e

    -- the place that is free is the last
    pub take_last : hole ≡ n - 1 → Done kind code h (n - 1) l (strike m.row m.col) qs
    take_last e =
        struck (n - 1) (omega (arith, some_marks)) qs same u (ap (tree_in (plan_square h) (cells code qs)) (sym rooted)) loses.ordered loses.less.marks
        (λ i. omega (arith, held_left i, below_last i, ap (λ (x : ℕ). one_if (eqb i x)) e))

    -- another place is free, and the last moves there
    module _ (apart : hole ≡ n - 1 → ⊥) where
      alone : Alone u
      alone a b = omega (arith, s.alone a b, loses.less.marks (λ y. one_if (at_cell a b y)))

      pub move_asks : (x : Spot) → (cells code qs (n - 1)).mark ≡ x → Moves kind v (length qs) (cells code qs) x (n - 1) hole (tree_in v (cells code qs) r)
      move_asks x e =
          subst (λ (y : Square). Moves kind y (length qs) (cells code qs) x (n - 1) hole (tree_in y (cells code qs) r)) (sym ev)
          (record {
            stands =
                record {
                  fits = fits_whole h s.height;
                  few = omega (arith, s.few);
                  ordered = loses.ordered;
                  alone = alone;
                  single = λ i. omega (arith, held_left i, one_if_le (ltb i n));
                  under = λ i low. let z : n ≤ i = omega (arith, s.room) in omega (arith, held_left i, ap one_if (le-ltb i n z));
                };
            held_once = let z : n - 1 < n = omega (arith, some_marks) in omega (arith, held_left (n - 1), ap one_if (lt-ltb (n - 1) n z), none_is (n - 1) hole (λ w. apart (sym w)));
            unused = omega (arith, held_left hole, one_if_le (ltb hole n), one_is hole hole refl);
            room = omega (arith, hole_low, s.room);
            mark = sym e;
          })

      module _ (rs : List (Place G)) (same' : length rs ≡ length qs) {b : Option ℕ} (done' : Moved kind v (n - 1) hole (cells code qs) r (cells code rs) b) where
        moved : Moved kind (plan_square h) (n - 1) hole (cells code qs) r (cells code rs) b
        moved = subst (λ (x : Square). Moved kind x (n - 1) hole (cells code qs) r (cells code rs) b) ev done'

        -- the root does not move
        root_stays : b ≡ root (n - 1)
        root_stays = go moved.root
          where
            last_is : n - 1 ≡ 0 → hole ≡ n - 1
            last_is e = omega (arith, hole_low)

            zero_root : (k : ℕ) → n - 1 ≡ k → r ≡ Some (n - 1) → ⊥
            zero_root zero e z = apart (last_is e)
            zero_root (suc k) e z = apart (last_is (some_inj (n - 1) 0 (sym z ∙ (rooted ∙ some_root (n - 1) (omega arith)))))
              where
                some_inj : (x y : ℕ) → Some x ≡ Some y → x ≡ y
                some_inj x y w = cc

            go : ((r ≡ Some (n - 1)) × (b ≡ Some hole)) ⊎ ((r ≡ Some (n - 1) → ⊥) × (b ≡ r)) → b ≡ root (n - 1)
            go (inl e) = absurd (zero_root (n - 1) refl e.0)
            go (inr e) = e.1 ∙ rooted

        pub take_moved : Done kind code h (n - 1) l (strike m.row m.col) rs
        take_moved =
            struck (n - 1) (omega (arith, some_marks)) rs (same' ∙ same) (tree_in (plan_square h) (cells code rs) b) (ap (tree_in (plan_square h) (cells code rs)) (sym root_stays)) moved.renumbers.ordered
            (λ f. omega (arith, loses.less.marks f, moved.renumbers.marks f))
            (λ i. omega (arith, moved.renumbers.numbers (λ x. one_if (eqb i x)), held_left i, below_last i))
