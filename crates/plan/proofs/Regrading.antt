-- Regrading a mark, as the ledger has it: once it is struck its cell is vacant and there are fewer marks than places, so that it
-- can be entered anew.
use Rattle.std.proofs.Common.{◌≡◌, ℕ, zero, suc, ◌+◌, ◌^◌, ◌≤◌, Bool, true, false, cond, not, ◌&&◌, eqb, ltb, length, is_some, Some, None, Ok, Err, Option, Result, sym, refl, ap, ◌∙◌, arith, eq-eqb, length-append}
use Rattle.std.proofs.lemmas.Bool.Decides.{nat_tests}
use borrow.Author.Tests.{lt-leb}
use Rattle.treap.specs.Spots.{Spot}
use Rattle.treap.specs.Sums.{one_if}
use Rattle.treap.specs.Ledgers.{Ledger, Call, enter, regrade, strike, graded, refused, refusal, taken, full, entry, row_entries, rows_entries, entries, set_cell, graded_or_vacant, answer, answer_as, next, next_as}
use Rattle.treap.proofs.Counts.{at_cell_is, both_true}
use Rattle.treap.proofs.Cells.{one_if_tells}
use Rattle.plan.specs.declared.place.Place.{Place}
use Rattle.plan.specs.declared.refusal.PlanRefusal.{PlanRefusal}
use Rattle.plan.specs.Refusals.{done_or}
use Rattle.plan.specs.Plans.{Layout, Kept}
use Rattle.plan.proofs.Calls.{neither_fits}

-- writing a cell twice is writing it once
set_twice : (row col : ℕ) (o p : Option ℕ) (l : Ledger) → set_cell row col p (set_cell row col o l) ≡ set_cell row col p l
set_twice row col o p l = λ i. record { level = l.level; places = l.places; grade = λ r c. go (eqb r row && eqb c col) (l.grade r c) i }
  where
    go : (v : Bool) (x : Option ℕ) → cond v p (cond v o x) ≡ cond v p x
    go true x = refl
    go false x = refl

length_entry : (row col : ℕ) (o : Option ℕ) → length (entry row col o) ≡ one_if (is_some o)
length_entry row col None = refl
length_entry row col (Some g) = refl

-- one number below n is k, if k is below n
one_below : (b : Bool) (k n : ℕ) → one_if (b && ltb k n) + one_if (b && eqb n k) ≡ one_if (b && ltb k (suc n))
one_below b k n = grind (arith, nat_tests, one_if_tells)

none_below : (b : Bool) (k : ℕ) → one_if (b && ltb k 0) ≡ 0
none_below b k = grind (arith, nat_tests, one_if_tells)

-- where f has one grade less than g, in the cell (r, c)
module _ (f g : ℕ → ℕ → Option ℕ) (r c : ℕ) (less : (row col : ℕ) → one_if (is_some (f row col)) + one_if (eqb row r && eqb col c) ≡ one_if (is_some (g row col))) where
  row_less : (row n : ℕ) → length (row_entries f row n) + one_if (eqb row r && ltb c n) ≡ length (row_entries g row n)
  row_less row zero = omega (arith, none_below (eqb row r) c)
  row_less row (suc n) =
      omega (
        arith,
        row_less row n,
        one_below (eqb row r) c n,
        less row n,
        length_entry row n (f row n),
        length_entry row n (g row n),
        length-append (row_entries f row n) (entry row n (f row n)),
        length-append (row_entries g row n) (entry row n (g row n)),
      )

  rows_less : (w n : ℕ) → length (rows_entries f w n) + one_if (ltb c w && ltb r n) ≡ length (rows_entries g w n)
  rows_less w zero = omega (arith, none_below (ltb c w) r)
  rows_less w (suc n) =
      omega (
        arith,
        rows_less w n,
        row_less n w,
        one_below (ltb c w) r n,
        swap (eqb n r) (ltb c w),
        length-append (rows_entries f w n) (row_entries f n w),
        length-append (rows_entries g w n) (row_entries g n w),
      )
    where
      swap : (a b : Bool) → one_if (a && b) ≡ one_if (b && a)
      swap true true = refl
      swap true false = refl
      swap false true = refl
      swap false false = refl

-- what an answer tells of a call that strikes
graded_accepts : (l : Ledger) (c : Call) (x : ℕ) → graded x ≡ answer l c → refusal l c ≡ None
graded_accepts l c x = elim (refusal l c) as (λ o. graded x ≡ answer_as l c o → o ≡ None) [ None ↦ λ e. refl | Some n ↦ λ e. (let z : ◌≡◌ {A = ℕ} 0 1 = cc in absurd (omega arith)) ]

refused_strike : (l : Ledger) (row col x : ℕ) → refused x ≡ answer l (strike row col) → refusal l (strike row col) ≡ Some x
refused_strike l row col x = go (refusal l (strike row col))
  where
    accepted_not : (o : Option ℕ) → refused x ≡ graded_or_vacant o → ⊥
    accepted_not None e = let z : ◌≡◌ {A = ℕ} 0 1 = cc in omega arith
    accepted_not (Some g) e = let z : ◌≡◌ {A = ℕ} 0 1 = cc in omega arith

    go : (o : Option ℕ) → refused x ≡ answer_as l (strike row col) o → o ≡ Some x
    go None e = absurd (accepted_not (l.grade row col) e)
    go (Some n) e = cc

unnot : (b : Bool) → not b ≡ false → b ≡ true
unnot true e = refl
unnot false e = sym e

module _ (l : Ledger) (m : Spot) where
  -- a refusal to strike is a refusal to regrade
  module _ (x : ℕ) (e : refused x ≡ answer l (strike m.row m.col)) where
    pub unstruck_next : {k : Ledger} → k ≡ next l (strike m.row m.col) → k ≡ next l (regrade m)
    unstruck_next n = n ∙ ap (next_as l (strike m.row m.col)) (refused_strike l m.row m.col x e) ∙ ap (next_as l (regrade m)) (sym (refused_strike l m.row m.col x e))

  module _ (room : length (entries l) ≤ l.places) (x : ℕ) (e : graded x ≡ answer l (strike m.row m.col)) (k : Ledger) (struck : k ≡ next l (strike m.row m.col)) where
    abbrev left : Ledger
    left = set_cell m.row m.col None l

    accepts : refusal l (strike m.row m.col) ≡ None
    accepts = graded_accepts l (strike m.row m.col) x e

    k_is : k ≡ left
    k_is = struck ∙ ap (next_as l (strike m.row m.col)) accepts

    fits : (not (ltb m.row (2 ^ l.level) && ltb m.col (2 ^ l.level)) ≡ false) × (not (taken l m.row m.col) ≡ false)
    fits = neither_fits (not (ltb m.row (2 ^ l.level) && ltb m.col (2 ^ l.level))) (not (taken l m.row m.col)) 4 6 accepts

    less : (row col : ℕ) → one_if (is_some (left.grade row col)) + one_if (eqb row m.row && eqb col m.col) ≡ one_if (is_some (l.grade row col))
    less row col = go (eqb row m.row && eqb col m.col) refl
      where
        go : (v : Bool) → eqb row m.row && eqb col m.col ≡ v → one_if (is_some (cond v None (l.grade row col))) + one_if v ≡ one_if (is_some (l.grade row col))
        go true q =
            let w = at_cell_is row col m q in
            sym (ap (λ (o : Option ℕ). one_if (is_some o)) (ap (λ (r : ℕ). l.grade r col) w.0 ∙ ap (l.grade m.row) w.1) ∙ ap one_if (unnot (taken l m.row m.col) fits.1))
        go false q = omega arith

    room_left : full left ≡ false
    room_left =
        let w = both_true (ltb m.row (2 ^ l.level)) (ltb m.col (2 ^ l.level)) (unnot (ltb m.row (2 ^ l.level) && ltb m.col (2 ^ l.level)) fits.0) in
        let on : one_if (ltb m.col (2 ^ l.level) && ltb m.row (2 ^ l.level)) ≡ 1 = rw (w.0, w.1) refl in
        lt-leb l.places (length (entries left)) (omega (arith, rows_less left.grade l.grade m.row m.col less (2 ^ l.level) (2 ^ l.level), on, room))

    again : refusal k (enter m) ≡ None
    again = rw (k_is, eq-eqb m.row m.row refl, eq-eqb m.col m.col refl) (rw (fits.0, room_left))

    pub regraded_answer : answer k (enter m) ≡ answer l (regrade m)
    regraded_answer = ap (answer_as k (enter m)) again ∙ ap (answer_as l (regrade m)) (sym accepts)

    pub regraded_next : next k (enter m) ≡ next l (regrade m)
    regraded_next =
        ap (next_as k (enter m)) again
        ∙ ap (set_cell m.row m.col (Some m.grade)) k_is
        ∙ set_twice m.row m.col None (Some m.grade) l
        ∙ ap (next_as l (regrade m)) (sym accepts)

    -- the mark is entered anew, so there is no refusal that would have to leave the plan
    pub regraded_kept : {G : Type 0} (p q : Layout (Place G)) (r : Result (Unit {0}) PlanRefusal) → done_or r ≡ answer k (enter m) → Kept p q r
    regraded_kept p q (Ok u) a = tt
    regraded_kept p q (Err w) a = let b = a ∙ ap (answer_as k (enter m)) again in let z : ◌≡◌ {A = ℕ} 0 1 = cc in absurd (omega arith)
