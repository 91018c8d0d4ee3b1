-- What the answers of a box tree tell.
use Rattle.std.proofs.Common.{◌≡◌, ℕ, ◌≤◌, Bool, true, false, ltb, Ok, Err, Option, refl, inl, arith}
use Rattle.grade.specs.Kind.{Kind}
use Rattle.boxtree.specs.declared.refusal.Absent.{Absent}
use Rattle.treap.specs.Spots.{Spot}
use Rattle.treap.specs.Trees.{Within, Tree, none, box, number, sub, find, Shows, Meaning, Lawful}
use Rattle.boxtree.specs.Answers.{absent, child_of, mark_of}
use Rattle.boxtree.proofs.Dividing.{at_most_16}
use Rattle.treap.proofs.Shown.{shown_holds}
use Rattle.treap.proofs.Find.{find_shown}

pub mark_err : (t : Tree) (e : Absent) → Err e ≡ mark_of t → t ≡ none
mark_err none e h = refl
mark_err (box n s a b c d) e h = let z : ◌≡◌ {A = ℕ} 0 1 = cc in absurd (omega arith)

pub mark_shown : (t : Tree) (m : Spot) → Ok m ≡ mark_of t → Shows t m
mark_shown none m h = let z : ◌≡◌ {A = ℕ} 0 1 = cc in absurd (omega arith)
mark_shown (box n s a b c d) m h = let e : m ≡ s = cc in inl e

pub child_number : (q : ℕ) (t : Tree) (m : Option ℕ) → Ok m ≡ child_of q t → number (sub q t) ≡ m
child_number q none m h = let z : ◌≡◌ {A = ℕ} 0 1 = cc in absurd (omega arith)
child_number q (box n s a b c d) m h = go (ltb q 4) refl
  where
    go : (v : Bool) → ltb q 4 ≡ v → number (sub q (box n s a b c d)) ≡ m
    go true e = let h' : Ok m ≡ Ok (number (sub q (box n s a b c d))) = rw e at h in cc
    go false e = let h' : Ok m ≡ Err absent = rw e at h in let z : ◌≡◌ {A = ℕ} 0 1 = cc in absurd (omega arith)

-- A mark that is answered lies in the square.
pub inside : {k : Kind} {m : Meaning} (h : Lawful k m) (b : ℕ) {s : Spot} → Ok s ≡ mark_of (find b m.tree) → Within m.square s.row s.col
inside {k} {m} h b {s} i = (shown_holds k m.square m.tree h.ordered s (find_shown b m.tree s (mark_shown _ s i))).inside

-- The side of the square is 2 ^ 16 at most.
pub level_small : {k : Kind} {m : Meaning} (h : Lawful k m) → m.square.level ≤ 16
level_small {k} {m} h = at_most_16 m.square.level m.square.top h.rows
