-- What the layers answer, from what is answered below.
use Rattle.std.proofs.Common.{◌≡◌, ℕ, Bool, true, false, cond, is_some, ltb, Some, None, Ok, Err, Option, Result, sym, refl, ap, ◌∙◌, arith}
use Rattle.std.specs.Prelude.{MatchOption, IsTrue}
use Rattle.std.specs.Bool.{then_some}
use Rattle.std.specs.Option.{ok_or}
use Rattle.std.specs.Result.{is_ok}
use Rattle.grade.specs.Kind.{Kind, Laws, codes}
use Rattle.boxtree.specs.declared.mark.Mark.{Mark}
use Rattle.boxtree.specs.declared.refusal.Absent.{Absent}
use Rattle.treap.specs.Spots.{Spot}
use Rattle.treap.specs.Trees.{Tree, none, box, number, sub, find, Meaning, Lawful}
use Rattle.treap.specs.Layers.{kept, floor, moved, moved_spot}
use Rattle.treap.specs.Piles.{under}
use Rattle.boxtree.specs.Marks.{spot_of}
use Rattle.boxtree.specs.Answers.{absent, child_of, mark_of, spotted}
use Rattle.treap.proofs.Find.{find_sub, ordered_find}
use Rattle.treap.proofs.Meanings.{floored_lawful, sub_moved, number_moved, find_moved, sub_floor, find_floor}
use Rattle.boxtree.proofs.Replies.{mark_err, child_number}

-- The answers under a shift.
module _ (r c : ℕ) where
  child_moved : (q : ℕ) (t : Tree) → child_of q (moved r c t) ≡ child_of q t
  child_moved q none = refl
  child_moved q (box n s x y z w) =
      let e = sub_moved r c q (box n s x y z w) in
      ap (λ o. cond (ltb q 4) (Ok o) (Err absent)) (ap number e ∙ number_moved r c (sub q (box n s x y z w)))

  mark_moved : (t : Tree) (x : Spot) → Ok x ≡ mark_of t → Ok (moved_spot r c x) ≡ mark_of (moved r c t)
  mark_moved none x h = let z : ◌≡◌ {A = ℕ} 0 1 = cc in absurd (omega arith)
  mark_moved (box n u x y z w) s h = let e : u ≡ s = cc in rw e

  pub shift_child : (t : Tree) (b q : ℕ) → child_of q (find b t) ≡ child_of q (find b (moved r c t))
  shift_child t b q = rw (find_moved r c b t) (sym (child_moved q (find b t)))

  pub shift_absent : (t : Tree) (b : ℕ) (e : Absent) → Err e ≡ mark_of (find b t) → Err e ≡ mark_of (find b (moved r c t))
  shift_absent t b e h = rw (find_moved r c b t, mark_err (find b t) e h) refl

  pub shift_mark : (t : Tree) (b : ℕ) {x : Spot} → Ok x ≡ mark_of (find b t) → Ok (moved_spot r c x) ≡ mark_of (find b (moved r c t))
  shift_mark t b {x} h = rw (find_moved r c b t) (mark_moved (find b t) x h)

-- the tree under a floor that may be absent
abbrev sift : Kind → Option ℕ → Tree → Tree
sift k None t = t
sift k (Some g) t = floor k g t

-- whether the floor leaves a box with a mark of this grade
abbrev passes : Kind → Option ℕ → ℕ → Bool
passes k None c = true
passes k (Some g) c = k.above c g

-- the answered mark of a box, under the floor
abbrev sifted : Kind → Option ℕ → Result Spot Absent → Result Spot Absent
sifted k o (Ok s) = cond (passes k o s.grade) (Ok s) (Err absent)
sifted k o (Err e) = Err e

-- the answered child of a box, of which u is left
abbrev answered : Tree → Result (Option ℕ) Absent → Result (Option ℕ) Absent
answered u (Ok n) = Ok (number u)
answered u (Err e) = Err e

module _ (k : Kind) where
  sift_mark : (o : Option ℕ) (t : Tree) → mark_of (sift k o t) ≡ sifted k o (mark_of t)
  sift_mark None none = refl
  sift_mark None (box n m a b c d) = refl
  sift_mark (Some g) none = refl
  sift_mark (Some g) (box n m a b c d) = go (k.above m.grade g)
    where
      go : (v : Bool) → mark_of (kept v (box n m (floor k g a) (floor k g b) (floor k g c) (floor k g d))) ≡ cond v (Ok m) (Err absent)
      go true = refl
      go false = refl

  -- a box of the tree with this number is left, or none
  sift_number : (o : Option ℕ) (t : Tree) (n : ℕ) → number t ≡ Some n → number (sift k o t) ≡ then_some (is_some (number (sift k o t))) n
  sift_number o none n e = let z : ◌≡◌ {A = ℕ} 0 1 = cc in absurd (omega arith)
  sift_number None (box i m a b c d) n e = e
  sift_number (Some g) (box i m a b c d) n e = go (k.above m.grade g)
    where
      go : (v : Bool) → number (kept v (box i m (floor k g a) (floor k g b) (floor k g c) (floor k g d))) ≡ then_some (is_some (number (kept v (box i m (floor k g a) (floor k g b) (floor k g c) (floor k g d))))) n
      go true = e
      go false = refl

  sift_none : (o : Option ℕ) (t : Tree) → number t ≡ None → number (sift k o t) ≡ None
  sift_none None t e = e
  sift_none (Some g) none e = refl
  sift_none (Some g) (box i m a b c d) e = let z : ◌≡◌ {A = ℕ} 0 1 = cc in absurd (omega arith)

  sift_child : (o : Option ℕ) (q : ℕ) (t : Tree) {s : Spot} → Ok s ≡ mark_of (sift k o t) → sub q (sift k o t) ≡ sift k o (sub q t) → child_of q (sift k o t) ≡ answered (sift k o (sub q t)) (child_of q t)
  sift_child None q none h e = refl
  sift_child (Some g) q none h e = refl
  sift_child o q (box n m a b c d) {s} h e = at (sift k o (box n m a b c d)) h ∙ ap (λ u. cond (ltb q 4) (Ok (number u)) (Err absent)) e ∙ go (ltb q 4)
    where
      at : (u : Tree) → Ok s ≡ mark_of u → child_of q u ≡ cond (ltb q 4) (Ok (number (sub q u))) (Err absent)
      at none i = let z : ◌≡◌ {A = ℕ} 0 1 = cc in absurd (omega arith)
      at (box n m a b c d) i = refl

      go : (v : Bool) → cond v (Ok (number (sift k o (sub q (box n m a b c d))))) (Err absent) ≡ answered (sift k o (sub q (box n m a b c d))) (cond v (Ok (number (sub q (box n m a b c d)))) (Err absent))
      go true = refl
      go false = refl

-- The answers under a floor that may be absent.
module _ {k : Kind} {m : Meaning} (laws : Laws k) (h : Lawful k m) where
  pub under_lawful : (o : Option ℕ) → Lawful k (under k o m)
  under_lawful None = h
  under_lawful (Some g) = floored_lawful k laws g m h

  seen : (o : Option ℕ) (b : ℕ) → find b (under k o m).tree ≡ sift k o (find b m.tree)
  seen None b = refl
  seen (Some g) b = find_floor k laws g b m.square m.tree h.ordered h.apart

  quarter : (o : Option ℕ) (b q : ℕ) → sub q (sift k o (find b m.tree)) ≡ sift k o (sub q (find b m.tree))
  quarter None b q = refl
  quarter (Some g) b q = let p = ordered_find k m.square b m.tree h.ordered in sub_floor k laws g q p.0 (find b m.tree) p.1

  under_mark : (o : Option ℕ) (b : ℕ) {r : Result Spot Absent} → r ≡ mark_of (find b m.tree) → sifted k o r ≡ mark_of (find b (under k o m).tree)
  under_mark o b i = ap (sifted k o) i ∙ sym (sift_mark k o (find b m.tree)) ∙ sym (ap mark_of (seen o b))

  pub no_mark : (o : Option ℕ) (b : ℕ) (e : Absent) → Err e ≡ mark_of (find b m.tree) → Err e ≡ mark_of (find b (under k o m).tree)
  no_mark o b e i = under_mark o b i

  module _ {G : Type 0} (code : G → ℕ) (o : Option G) where
    -- a mark that is answered where the floor leaves it
    pub kept_mark : (b : ℕ) (x : Mark G) (v : Bool) → Ok (spot_of code x) ≡ mark_of (find b m.tree) → MatchOption o (IsTrue v) (λ g. v ≡ k.above (code x.grade) (code g)) → spotted code (ok_or (then_some v x) absent) ≡ mark_of (find b (under k (codes code o) m).tree)
    kept_mark b x v i p =
        spotted_if v ∙ ap (λ u. cond u (Ok (spot_of code x)) (Err absent)) (passed o p) ∙ under_mark (codes code o) b i
      where
        passed : (o : Option G) → MatchOption o (IsTrue v) (λ g. v ≡ k.above (code x.grade) (code g)) → v ≡ passes k (codes code o) (code x.grade)
        passed None e = e
        passed (Some g) e = e

        spotted_if : (u : Bool) → spotted code (ok_or (then_some u x) absent) ≡ cond u (Ok (spot_of code x)) (Err absent)
        spotted_if true = refl
        spotted_if false = refl

    -- the number of a box of the tree, answered where the box is left
    left_number : (n : ℕ) (u : Tree) → find n m.tree ≡ u → number u ≡ Some n → (r : Result (Mark G) Absent) → spotted code r ≡ mark_of (find n (under k (codes code o) m).tree) → then_some (is_ok r) n ≡ number (sift k (codes code o) u)
    left_number n u f e r i =
        ap (λ v. then_some v n) (same r ∙ ap is_ok (i ∙ ap mark_of (seen (codes code o) n ∙ ap (sift k (codes code o)) f)) ∙ boxed (sift k (codes code o) u))
        ∙ sym (sift_number k (codes code o) u n e)
      where
        same : (r : Result (Mark G) Absent) → is_ok r ≡ is_ok (spotted code r)
        same (Ok x) = refl
        same (Err x) = refl

        boxed : (t : Tree) → is_ok (mark_of t) ≡ is_some (number t)
        boxed none = refl
        boxed (box i x a b c d) = refl

    -- where the floor does not leave the box b, no child is answered
    pub no_box : (b q : ℕ) (e : Absent) → Err e ≡ mark_of (find b (under k (codes code o) m).tree) → Err e ≡ child_of q (find b (under k (codes code o) m).tree)
    no_box b q e i = rw (mark_err (find b (under k (codes code o) m).tree) e i) refl

    -- and where it leaves the box b
    module _ (b q : ℕ) (x : Mark G) (i : Ok (spot_of code x) ≡ mark_of (find b m.tree)) (p : MatchOption o (IsTrue true) (λ g. true ≡ k.above (code x.grade) (code g))) where
      answer : {r : Result (Option ℕ) Absent} → r ≡ child_of q (find b m.tree) → answered (sift k (codes code o) (sub q (find b m.tree))) r ≡ child_of q (find b (under k (codes code o) m).tree)
      answer j =
          ap (answered (sift k (codes code o) (sub q (find b m.tree)))) j
          ∙ sym (sift_child k (codes code o) q (find b m.tree) (kept_mark b x true i p ∙ ap mark_of (seen (codes code o) b)) (quarter (codes code o) b q))
          ∙ sym (ap (child_of q) (seen (codes code o) b))

      pub no_quadrant : (e : Absent) → Err e ≡ child_of q (find b m.tree) → Err e ≡ child_of q (find b (under k (codes code o) m).tree)
      no_quadrant e j = answer j

      pub no_child : Ok None ≡ child_of q (find b m.tree) → Ok None ≡ child_of q (find b (under k (codes code o) m).tree)
      no_child j =
          ap Ok (sym (sift_none k (codes code o) (sub q (find b m.tree)) (child_number q (find b m.tree) None j))) ∙ answer j

      pub left_child : (c : ℕ) → Ok (Some c) ≡ child_of q (find b m.tree) → (r : Result (Mark G) Absent) → spotted code r ≡ mark_of (find c (under k (codes code o) m).tree) → Ok (then_some (is_ok r) c) ≡ child_of q (find b (under k (codes code o) m).tree)
      left_child c j r n =
          let e = child_number q (find b m.tree) (Some c) j in
          ap Ok (left_number c (sub q (find b m.tree)) (find_sub b c q m.tree h.apart e) e r n) ∙ answer j
