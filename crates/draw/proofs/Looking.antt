-- What is known of a box that is looked at.
use Rattle.std.proofs.Common.{◌≡◌, ℕ, pred, ◌+◌, ◌^◌, ◌<◌, ◌≤◌, max, true, false, ltb, leb, Some, Option, Ok, Err, Result, sym, refl, ap, ◌∙◌, subst, subst₂, inl, inr, arith, pow_pos}
use Rattle.std.specs.Result.{result_ok}
use Rattle.std.proofs.lemmas.Bool.{true≢false, and_parts, leb-true, ltb-true, le-leb, lt-ltb}
use Rattle.grade.specs.Kind.{Kind}
use Rattle.treap.specs.Spots.{Spot}
use Rattle.treap.specs.Trees.{Quadrant, tl, tr, bl, br, index, Square, quadrant, Tree, none, box, pick, number, sub, find, Hangs, Ordered, Meaning, Lawful}
use Rattle.treap.specs.Draws.{Window, Sees, Touches, Part, whole, deeper}
use Rattle.treap.specs.Searches.{Node, tree, child}
use Rattle.treap.proofs.Shown.{halves, hangs}
use Rattle.treap.proofs.Needed.{part_lawful}
use Rattle.treap.proofs.Find.{found, Found, find_sub, find_part}
use Rattle.boxtree.specs.Answers.{child_of, mark_of, spotted}
use Rattle.boxtree.specs.Marks.{spot_of}
use Rattle.boxtree.specs.Squares.{Divided}
use Rattle.boxtree.specs.declared.mark.Mark.{Mark}
use Rattle.boxtree.specs.declared.refusal.Absent.{Absent}
use Rattle.boxtree.proofs.Replies.{child_number, level_small}
use Rattle.draw.specs.Nodes.{Upright, touching, seeing}

pub touching_yes : (s : Square) (w : Window) → Upright w → touching s w ≡ true → Touches s w
touching_yes s w u h =
    let p = and_parts _ _ h in
    let a = and_parts _ _ p.0 in
    let b = and_parts _ _ p.1 in
    let a0 = leb-true s.top w.bottom a.0 in
    let a1 = ltb-true w.top (s.top + 2 ^ s.level) a.1 in
    let b0 = leb-true s.left w.right b.0 in
    let b1 = ltb-true w.left (s.left + 2 ^ s.level) b.1 in
    let z : 0 < 2 ^ s.level = pow_pos s.level in
    record {
      row = max s.top w.top;
      col = max s.left w.left;
      within = record { not_above = omega arith; not_below = omega arith; not_left = omega arith; not_right = omega arith };
      seen = record { not_above = omega arith; not_below = omega arith; not_left = omega arith; not_right = omega arith };
    }

pub touching_no : (s : Square) (w : Window) → touching s w ≡ false → Touches s w → ⊥
touching_no s w h t =
    let v = t.within in
    let e = t.seen in
    let a0 : leb s.top w.bottom ≡ true = le-leb _ _ (omega arith) in
    let a1 : ltb w.top (s.top + 2 ^ s.level) ≡ true = lt-ltb _ _ (omega arith) in
    let b0 : leb s.left w.right ≡ true = le-leb _ _ (omega arith) in
    let b1 : ltb w.left (s.left + 2 ^ s.level) ≡ true = lt-ltb _ _ (omega arith) in
    true≢false (rw (a0, a1, b0, b1) at h)

pub seeing_yes : (w : Window) (m : Spot) → seeing w m ≡ true → Sees w m.row m.col
seeing_yes w m h =
    let p = and_parts _ _ h in
    let a = and_parts _ _ p.0 in
    let b = and_parts _ _ p.1 in
    record { not_above = leb-true _ _ a.0; not_below = leb-true _ _ a.1; not_left = leb-true _ _ b.0; not_right = leb-true _ _ b.1 }

pub seeing_no : (w : Window) (m : Spot) → seeing w m ≡ false → Sees w m.row m.col → ⊥
seeing_no w m h e =
    let a0 : leb w.top m.row ≡ true = le-leb _ _ e.not_above in
    let a1 : leb m.row w.bottom ≡ true = le-leb _ _ e.not_below in
    let b0 : leb w.left m.col ≡ true = le-leb _ _ e.not_left in
    let b1 : leb m.col w.right ≡ true = le-leb _ _ e.not_right in
    true≢false (rw (a0, a1, b0, b1) at h)

-- what is told by a mark and by a number that are answered
pub mark_told : {G : Type 0} (code : G → ℕ) (r : Result (Mark G) Absent) (m : Mark G) (u : Tree) → spotted code r ≡ mark_of u → result_ok r ≡ Some m → Ok (spot_of code m) ≡ mark_of u
mark_told code (Ok x) m u h e = let p : x ≡ m = cc in subst (λ (y : Mark _). Ok (spot_of code y) ≡ mark_of u) p h
mark_told code (Err x) m u h e = let z : ◌≡◌ {A = ℕ} 0 1 = cc in absurd (omega arith)

pub number_told : (r : Result (Option ℕ) Absent) (o : Option ℕ) (c q : ℕ) (u : Tree) → r ≡ child_of q u → result_ok r ≡ Some o → o ≡ Some c → Ok (Some c) ≡ child_of q u
number_told (Ok x) o c q u h e f = let p : x ≡ Some c = cc in sym (ap Ok p) ∙ h
number_told (Err x) o c q u h e f = let z : ◌≡◌ {A = ℕ} 0 1 = cc in absurd (omega arith)

-- a box taken apart and put together
together : (u : Tree) (n : ℕ) (m : Spot) → number u ≡ Some n → Ok m ≡ mark_of u → box n m (sub 0 u) (sub 1 u) (sub 2 u) (sub 3 u) ≡ u
together none n m e h = let z : ◌≡◌ {A = ℕ} 0 1 = cc in absurd (omega arith)
together (box i x a b c d) n m e h = let p : n ≡ i = cc in let q : m ≡ x = cc in λ z. box (p z) (q z) a b c d

somewhere : Square
somewhere = record { level = 0; top = 0; left = 0 }

pub found_box : (t : Tree) (n : ℕ) (m : Spot) → Ok m ≡ mark_of (find n t) → box n m (sub 0 (find n t)) (sub 1 (find n t)) (sub 2 (find n t)) (sub 3 (find n t)) ≡ find n t
found_box t n m h = go (found somewhere n t)
  where
    go : Found somewhere n t (find n t) → box n m (sub 0 (find n t)) (sub 1 (find n t)) (sub 2 (find n t)) (sub 3 (find n t)) ≡ find n t
    go (inl e) = let z : ◌≡◌ {A = ℕ} 0 1 = cc in absurd (omega arith)
    go (inr x) = together (find n t) n m x.2 h

-- a part lies in the whole
pub record Lies (s r : Square) : Type 0 where
  pub not_above : s.top ≤ r.top
  pub not_below : r.top + 2 ^ r.level ≤ s.top + 2 ^ s.level
  pub not_left : s.left ≤ r.left
  pub not_right : r.left + 2 ^ r.level ≤ s.left + 2 ^ s.level
  pub smaller : r.level ≤ s.level

pub quadrant_level : (q : Quadrant) (s : Square) → (quadrant q s).level ≡ pred s.level
quadrant_level tl s = refl
quadrant_level tr s = refl
quadrant_level bl s = refl
quadrant_level br s = refl

lower : (x y z : ℕ) → x ≡ pred y → y ≤ z → x ≤ z
lower x y z e h = omega arith

lies_quadrant : (s r : Square) (q : Quadrant) → 0 < r.level → Lies s r → Lies s (quadrant q r)
lies_quadrant s r tl p h = let d = halves r.level p in record { not_above = omega arith; not_below = omega arith; not_left = omega arith; not_right = omega arith; smaller = lower _ _ _ (quadrant_level tl r) h.smaller }
lies_quadrant s r tr p h = let d = halves r.level p in record { not_above = omega arith; not_below = omega arith; not_left = omega arith; not_right = omega arith; smaller = lower _ _ _ (quadrant_level tr r) h.smaller }
lies_quadrant s r bl p h = let d = halves r.level p in record { not_above = omega arith; not_below = omega arith; not_left = omega arith; not_right = omega arith; smaller = lower _ _ _ (quadrant_level bl r) h.smaller }
lies_quadrant s r br p h = let d = halves r.level p in record { not_above = omega arith; not_below = omega arith; not_left = omega arith; not_right = omega arith; smaller = lower _ _ _ (quadrant_level br r) h.smaller }

pub has_quadrants : (k : Kind) (s : Square) (m : Spot) (u : Tree) (n : ℕ) → Hangs k s m u → number u ≡ Some n → 0 < s.level
has_quadrants k s m none n h e = let z : ◌≡◌ {A = ℕ} 0 1 = cc in absurd (omega arith)
has_quadrants k s m (box i x a b c d) n h e = h.0

pub part_lies : (k : Kind) {s : Square} {t : Tree} {r : Square} {u : Tree} → Part s t r u → Ordered k s t → (n : ℕ) → number u ≡ Some n → Lies s r
part_lies k whole h n e = record { not_above = omega arith; not_below = omega arith; not_left = omega arith; not_right = omega arith; smaller = omega arith }
part_lies k {s} (deeper {r = r} {i = i} {m = m} {a = a} {b = b} {c = c} {d = d} p q) h n e =
    lies_quadrant s r q (has_quadrants k r m (pick a b c d q) n (hangs k r i m a b c d (part_lawful k p h) q) e) (part_lies k p h i refl)

-- the box in a quadrant, by the index of that
pub sub_index : (q : Quadrant) (f : Node) → sub (index q) (tree f) ≡ child f q
sub_index tl f = refl
sub_index tr f = refl
sub_index bl f = refl
sub_index br f = refl

-- a box of which the tree t has as a part, asked for the box in quadrant q
module _ {k : Kind} {m : Meaning} (h : Lawful k m) (f : Node) (p : Part m.square m.tree f.square (tree f)) (q : Quadrant) where
  pub itself : find f.number m.tree ≡ tree f
  itself = find_part m.square m.tree f.number f.square (tree f) p h.apart refl

  quadrant_is : sub (index q) (find f.number m.tree) ≡ child f q
  quadrant_is = ap (sub (index q)) itself ∙ sub_index q f

  pub kid_found : (c : ℕ) → Ok (Some c) ≡ child_of (index q) (find f.number m.tree) → find c m.tree ≡ child f q
  kid_found c e = find_sub f.number c (index q) m.tree h.apart (child_number (index q) _ (Some c) e) ∙ quadrant_is

  pub kid_number : (c : ℕ) → Ok (Some c) ≡ child_of (index q) (find f.number m.tree) → number (child f q) ≡ Some c
  kid_number c e = ap number (sym quadrant_is) ∙ child_number (index q) _ (Some c) e

  pub kid_quadrants : (c : ℕ) → Ok (Some c) ≡ child_of (index q) (find f.number m.tree) → 0 < f.square.level
  kid_quadrants c e =
      has_quadrants k f.square f.mark (child f q) c
      (hangs k f.square f.number f.mark f.a f.b f.c f.d (part_lawful k p h.ordered) q) (kid_number c e)

  pub place : Lies m.square f.square
  place = part_lies k p h.ordered f.number refl

-- what is known of a box below f, once the tree has answered its number: f's square has quadrants, and it is the box of the one
-- that was asked for
pub record Kid (m : Meaning) (f : Node) (q : Quadrant) (n : ℕ) : Type 0 where
  pub divided : Divided f.square
  pub low : pred f.square.level ≤ 16
  pub box : find n m.tree ≡ child f q

pub kid : {X : Type 0} (shown : X → Meaning) {k : Kind} {x y : X} → x ≡ y → Lawful k (shown x)
    → (f : Node) → Part (shown y).square (shown y).tree f.square (tree f) → (q : Quadrant) (i : ℕ) → i ≡ index q
    → (r : Result (Option ℕ) Absent) (o : Option ℕ) (n : ℕ)
    → r ≡ child_of i (find f.number (shown x).tree) → result_ok r ≡ Some o → o ≡ Some n
    → Kid (shown y) f q n
kid {X} shown {k} {x} {y} e lawful f p q i j r o n answer ok some =
    let h : Lawful k (shown y) = subst (λ (z : X). Lawful k (shown z)) e lawful in
    let a : r ≡ child_of (index q) (find f.number (shown y).tree) = subst₂ (λ (z : X) (l : ℕ). r ≡ child_of l (find f.number (shown z).tree)) e j answer in
    let told = number_told r o n (index q) (find f.number (shown y).tree) a ok some in
    let l = place h f p q in
    let rows = h.rows in
    let cols = h.cols in
    let m = level_small h in
    record {
      divided = record { deep = kid_quadrants h f p q n told; rows = omega arith; cols = omega arith };
      low = omega arith;
      box = kid_found h f p q n told;
    }
