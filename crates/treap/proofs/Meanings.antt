-- A floor over a lawful meaning is lawful, and so is a lawful meaning moved; and what they answer.
use Rattle.std.proofs.Common.{◌≡◌, ℕ, zero, suc, ◌+◌, ◌^◌, ◌≤◌, Bool, true, false, cond, eqb, List, None, sym, refl, ap, ◌∙◌, subst, inl, inr, arith}
use Rattle.std.proofs.lemmas.Bool.{false≢true}
use Rattle.std.proofs.lemmas.Bool.Decides.{nat_tests}
use Rattle.grade.specs.Kind.{Kind, Laws}
use Rattle.treap.specs.Spots.{Spot}
use Rattle.treap.specs.Trees.{Quadrant, tl, tr, bl, br, Square, quadrant, Tree, none, box, pick, number, sub, find, count, numbers, Shows, Ordered, Apart, Meaning, Lawful}
use Rattle.treap.specs.Layers.{kept, floor, moved_spot, moved, floored, shifted, shift_refusal}
use Rattle.treap.proofs.Lists.{each_apart, by_quadrant, quarter}
use Rattle.treap.proofs.Find.{find_shown, chosen, chosen_is, find_once}
use Rattle.treap.proofs.Layers.{by_kept, floor_high, floor_shows_lem, shift_shows_lem}

-- what is done to each quadrant is done to one
sub_each : (f : Tree → Tree) → f none ≡ none → (q i : ℕ) (m n : Spot) (a b c d : Tree) → sub q (box i n (f a) (f b) (f c) (f d)) ≡ f (sub q (box i m a b c d))
sub_each f e zero i m n a b c d = refl
sub_each f e (suc zero) i m n a b c d = refl
sub_each f e (suc (suc zero)) i m n a b c d = refl
sub_each f e (suc (suc (suc zero))) i m n a b c d = refl
sub_each f e (suc (suc (suc (suc q)))) i m n a b c d = sym e

module _ (k : Kind) (L : Laws k) (g : ℕ) where
  -- where nothing shown reaches g, the floor leaves nothing
  none_left : (u : Tree) → ((x : Spot) → Shows u x → k.above x.grade g ≡ true → ⊥) → floor k g u ≡ none
  none_left none h = refl
  none_left (box i m a b c d) h = by_kept (λ v. v ≡ none) (k.above m.grade g) _ refl (λ e. absurd (h m (inl refl) e))

  -- where the root falls short, all that is shown does
  under_short : (s : Square) (i : ℕ) (m : Spot) (a b c d : Tree) → Ordered k s (box i m a b c d) → k.above m.grade g ≡ false → (x : Spot) → Shows (box i m a b c d) x → k.above x.grade g ≡ true → ⊥
  under_short s i m a b c d h e x v p = false≢true (sym e ∙ floor_high k L g s i m a b c d h x v p)

  abbrev Same : ℕ → Tree → Type 0
  Same n t = find n (floor k g t) ≡ floor k g (find n t)

  find_kept : (n i : ℕ) (m : Spot) (a b c d : Tree) → Apart (numbers (box i m a b c d)) → ((q : Quadrant) → Same n (pick a b c d q)) → k.above m.grade g ≡ true → find n (box i m (floor k g a) (floor k g b) (floor k g c) (floor k g d)) ≡ floor k g (find n (box i m a b c d))
  find_kept n i m a b c d h each up = go (eqb n i)
    where
      o : (q : Quadrant) × ((p : Quadrant) → (p ≡ q → ⊥) → find n (pick a b c d p) ≡ none)
      o = find_once n i m a b c d h

      all : chosen (λ q. find n (floor k g (pick a b c d q))) ≡ floor k g (chosen (λ q. find n (pick a b c d q)))
      all =
          chosen_is (λ q. find n (floor k g (pick a b c d q))) o.0 (λ p ne. each p ∙ ap (floor k g) (o.1 p ne))
          ∙ each o.0
          ∙ ap (floor k g) (sym (chosen_is (λ q. find n (pick a b c d q)) o.0 o.1))

      go : (v : Bool) → cond v (box i m (floor k g a) (floor k g b) (floor k g c) (floor k g d)) (chosen (λ q. find n (floor k g (pick a b c d q)))) ≡ floor k g (cond v (box i m a b c d) (chosen (λ q. find n (pick a b c d q))))
      go true = rw up
      go false = all

  pub find_floor : (n : ℕ) (s : Square) (t : Tree) → Ordered k s t → Apart (numbers t) → Same n t
  find_floor n s none h ap' = refl
  find_floor n s (box i m a b c d) h ap' =
      let below = each_apart (quarter a b c d) ap'.1 in
      go (k.above m.grade g) refl
      (by_quadrant _ (find_floor n (quadrant tl s) a h.2.0 (below tl)) (find_floor n (quadrant tr s) b h.2.1 (below tr)) (find_floor n (quadrant bl s) c h.2.2 (below bl)) (find_floor n (quadrant br s) d h.2.3 (below br)))
    where
      go : (v : Bool) → k.above m.grade g ≡ v → ((q : Quadrant) → Same n (pick a b c d q)) → find n (kept v (box i m (floor k g a) (floor k g b) (floor k g c) (floor k g d))) ≡ floor k g (find n (box i m a b c d))
      go true e each = find_kept n i m a b c d ap' each e
      go false e each = sym (none_left (find n (box i m a b c d)) (λ x v. under_short s i m a b c d h e x (find_shown n (box i m a b c d) x v)))

  shows_sub : (q : ℕ) (t : Tree) (x : Spot) → Shows (sub q t) x → Shows t x
  shows_sub q none x h = h
  shows_sub zero (box i m a b c d) x h = inr (inl h)
  shows_sub (suc zero) (box i m a b c d) x h = inr (inr (inl h))
  shows_sub (suc (suc zero)) (box i m a b c d) x h = inr (inr (inr (inl h)))
  shows_sub (suc (suc (suc zero))) (box i m a b c d) x h = inr (inr (inr (inr h)))
  shows_sub (suc (suc (suc (suc q)))) (box i m a b c d) x h = absurd h

  pub sub_floor : (q : ℕ) (s : Square) (t : Tree) → Ordered k s t → sub q (floor k g t) ≡ floor k g (sub q t)
  sub_floor q s none h = refl
  sub_floor q s (box i m a b c d) h = go (k.above m.grade g) refl
    where
      go : (v : Bool) → k.above m.grade g ≡ v → sub q (kept v (box i m (floor k g a) (floor k g b) (floor k g c) (floor k g d))) ≡ floor k g (sub q (box i m a b c d))
      go true e = sub_each (floor k g) refl q i m m a b c d
      go false e = sym (none_left (sub q (box i m a b c d)) (λ x v. under_short s i m a b c d h e x (shows_sub q (box i m a b c d) x v)))

  count_floor : (t : Tree) → count (floor k g t) ≤ count t
  count_floor none = omega arith
  count_floor (box i m a b c d) =
      by_kept (λ u. count u ≤ count (box i m a b c d)) (k.above m.grade g) _ (omega arith)
      (λ _. omega (arith, count_floor a, count_floor b, count_floor c, count_floor d))

  pub floored_lawful : (m : Meaning) → Lawful k m → Lawful k (floored k g m)
  floored_lawful m h =
      let f = floor_shows_lem k L g m.square m.tree h.ordered in
      record {
        rows = h.rows;
        cols = h.cols;
        counted = let c = count_floor m.tree in let b = h.counted in omega arith;
        ordered = f.0;
        lone = λ x y p q. h.lone x y (f.1 x p).0 (f.1 y q).0;
        apart = f.3 h.apart;
      }

-- a square that a shift is not refused for ends at 65536 at most
pub shift_fits : (r c : ℕ) (m : Meaning)
    → shift_refusal r c m ≡ None
    → ((m.square.top + r) + 2 ^ m.square.level ≤ 65536) × ((m.square.left + c) + 2 ^ m.square.level ≤ 65536)
shift_fits r c m h = (grind (arith, nat_tests), grind (arith, nat_tests))

module _ (r c : ℕ) where
  pub find_moved : (n : ℕ) (t : Tree) → find n (moved r c t) ≡ moved r c (find n t)
  find_moved n none = refl
  find_moved n (box m s x y z w) = grind (arith, find_moved n x, find_moved n y, find_moved n z, find_moved n w)

  pub sub_moved : (q : ℕ) (t : Tree) → sub q (moved r c t) ≡ moved r c (sub q t)
  sub_moved q none = refl
  sub_moved q (box m s x y z w) = sub_each (moved r c) refl q m s (moved_spot r c s) x y z w

  pub number_moved : (t : Tree) → number (moved r c t) ≡ number t
  number_moved none = refl
  number_moved (box m s x y z w) = refl

  count_moved : (t : Tree) → count (moved r c t) ≡ count t
  count_moved none = refl
  count_moved (box m s x y z w) = rw (count_moved x, count_moved y, count_moved z, count_moved w)

  pub shifted_lawful : (k : Kind) (m : Meaning) → Lawful k m → shift_refusal r c m ≡ None → Lawful k (shifted r c m)
  shifted_lawful k m h e =
      let f = shift_fits r c m e in
      let v = shift_shows_lem k r c m.square m.tree h.ordered in
      record {
        rows = f.0;
        cols = f.1;
        counted = rw (count_moved m.tree) h.counted;
        ordered = v.0;
        lone = λ x y p q er ec.
            let a = v.2 x p in
            let b = v.2 y q in
            a.2 ∙ ap (moved_spot r c) (h.lone a.0 b.0 a.1 b.1 (grind (arith, a.2, b.2)) (grind (arith, a.2, b.2))) ∙ sym b.2;
        apart = subst (λ (l : List ℕ). Apart l) (sym v.3) h.apart;
      }
