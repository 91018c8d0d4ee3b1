-- The boxes right below a box come in one by one.
use Rattle.std.proofs.Common.{◌≡◌, ℕ, zero, suc, ◌+◌, ◌<◌, ◌≤◌, true, List, [], ◌∷◌, ◌++◌, map, length, get_or, set, take, is_some, Some, None, Option, sym, refl, ap, ◌∙◌, subst, add-one, arith}
use lib.ListN.{length-map, get_or-map}
use lib.Seq.{map-set}
use Rattle.std.specs.List.Sorted.{IsPermutation, apply_swaps, SwapsInRange}
use Rattle.std.specs.List.{swap}
use Rattle.std.proofs.lemmas.List.{length-take-le, get_or-take}
use Rattle.std.proofs.lemmas.List.Sorted.{IsPermutation-refl, IsPermutation-trans, IsPermutation-cons, sum_by-IsPermutation}
use Rattle.std.proofs.lemmas.List.Sums.{sum_by-cons, sum_by-append}
use Rattle.treap.specs.Trees.{Quadrant, tl, tr, bl, br, index, Square, quadrant, Tree, sub, count}
use Rattle.treap.specs.Draws.{Window, Touches}
use Rattle.treap.specs.Searches.{Node, tree, child}
use Rattle.treap.proofs.Walks.{Kids}
use Rattle.treap.proofs.Kids.{kids_none, kids_skip, kids_push, kids_all}
use Rattle.boxtree.specs.declared.quadrant.Quadrant as boxtree
use Rattle.boxtree.specs.declared.quadrant.Quadrant.TheVariants.{TopLeft, TopRight, BottomLeft, BottomRight}
use Rattle.boxtree.specs.Quadrants.{quadrant_of}
use Rattle.boxtree.specs.Squares.{square_of}
use Rattle.draw.specs.declared.entry.Entry.{Entry}
use Rattle.draw.specs.Nodes.{node, noded, nodes, Looked, weight}
use Rattle.draw.specs.Opened.{with, few, Opening}
use Rattle.draw.proofs.Looking.{sub_index}

-- what is done to a list is done to its image
module _ {X Y : Type 0} (f : X → Y) where
  map_exchanged : (xs : List X) (i j : ℕ) → map f (swap xs i j) ≡ swap (map f xs) i j
  map_exchanged [] i j = refl
  map_exchanged (d ∷ xs) i j =
      map-set f (set (d ∷ xs) i (get_or (d ∷ xs) j d)) j (get_or (d ∷ xs) i d)
      ∙ ap (λ (l : List Y). set l j (f (get_or (d ∷ xs) i d))) (map-set f (d ∷ xs) i (get_or (d ∷ xs) j d))
      ∙ ap (λ (y : Y). set (set (map f (d ∷ xs)) i (f (get_or (d ∷ xs) j d))) j y) (sym (get_or-map f (d ∷ xs) i d))
      ∙ ap (λ (y : Y). set (set (map f (d ∷ xs)) i y) j (get_or (map f (d ∷ xs)) i (f d))) (sym (get_or-map f (d ∷ xs) j d))

  map_moved : (xs : List X) (ms : List (ℕ × ℕ)) → map f (apply_swaps xs ms) ≡ apply_swaps (map f xs) ms
  map_moved xs [] = refl
  map_moved xs (p ∷ ms) = map_exchanged (apply_swaps xs ms) p.0 p.1 ∙ ap (λ (l : List Y). swap l p.0 p.1) (map_moved xs ms)

  pub shuffled_map : (xs ys : List X) → IsPermutation xs ys → IsPermutation (map f xs) (map f ys)
  shuffled_map xs ys s = record {
    moves = s.moves;
    below = subst (λ (n : ℕ). SwapsInRange n s.moves) (sym (length-map xs f)) s.below;
    is = ap (map f) s.is ∙ map_moved xs s.moves;
  }

pub nodes_with : {G : Type 0} (code : G → ℕ) (t : Tree) (o : Option (Entry G)) (l : List (Entry G)) → nodes code t (with o l) ≡ with (noded code t o) (nodes code t l)
nodes_with code t None l = refl
nodes_with code t (Some e) l = refl

pub long_weight : (l : List Node) → length l ≤ weight l
long_weight [] = omega arith
long_weight (e ∷ l) = let h = long_weight l in let c = sum_by-cons (λ (x : Node). count (tree x)) e l in omega arith

few_less : (f : Node) (q : Quadrant) → few f (index q) + count (sub (index q) (tree f)) < count (tree f)
few_less f tl = omega arith
few_less f tr = omega arith
few_less f bl = omega arith
few_less f br = omega arith

abbrev all : List boxtree.Quadrant
all = TopLeft ∷ (TopRight ∷ (BottomLeft ∷ (BottomRight ∷ [])))

-- the quadrants stand in the order of their indices
pub index_at : (k : ℕ) (d : boxtree.Quadrant) → k < 4 → index (quadrant_of (get_or all k d)) ≡ k
index_at zero d h = refl
index_at (suc zero) d h = refl
index_at (suc (suc zero)) d h = refl
index_at (suc (suc (suc zero))) d h = refl
index_at (suc (suc (suc (suc k)))) d h = absurd (omega arith)

-- and so do the first n of them
pub index_within : (n k : ℕ) (d : boxtree.Quadrant) → n ≤ 4 → k < length (take n all) → index (quadrant_of (get_or (take n all) k d)) ≡ k
index_within n k d le h =
    let e = length-take-le n all le in
    ap (λ (q : boxtree.Quadrant). index (quadrant_of q)) (get_or-take n all k d (omega arith)) ∙ index_at k d (omega arith)

-- the boxes right below f that touch the window have come in
pub record Opened (w : Window) (f : Node) (before after : List Node) : Type 0 where
  pub kids : List Node
  pub are : Kids w f kids
  pub shuffled : IsPermutation (kids ++ before) after
  pub light : suc (weight kids) ≤ count (tree f)

pub opens : (w : Window) (f : Node) (before : List Node) → Opening w f 0 before before
opens w f before = record { kids = []; are = kids_none w f; shuffled = IsPermutation-refl before; light = omega arith }

module _ (w : Window) (f : Node) (q : Quadrant) (before mid after : List Node) (h : Opening w f (index q) before mid) where
  few_next : few f (index q + 1) ≡ few f (index q) + count (sub (index q) (tree f))
  few_next = ap (few f) (add-one (index q))

  pub another : (o : Option Node) → Looked w (quadrant q f.square) (child f q) o → IsPermutation (with o mid) after → Opening w f (index q + 1) before after
  another None v s = record {
    kids = h.kids;
    are = kids_skip w f h.kids q h.are v;
    shuffled = IsPermutation-trans _ _ _ h.shuffled s;
    light = let l = h.light in let e = few_next in omega arith;
  }
  another (Some e) v s = record {
    kids = e ∷ h.kids;
    are = kids_push w f h.kids q h.are e v.0 v.1 (subst (λ (r : Square). Touches r w) (sym v.0) v.2);
    shuffled = IsPermutation-trans _ _ _ (IsPermutation-cons e _ _ h.shuffled) s;
    light =
        let l = h.light in
        let n = few_next in
        let i : count (tree e) ≡ count (sub (index q) (tree f)) = ap count (v.1 ∙ sym (sub_index q f)) in
        let c = sum_by-cons (λ (x : Node). count (tree x)) e h.kids in
        omega arith;
  }

  -- there is room for one more
  pub room_left : (e : Node) → Looked w (quadrant q f.square) (child f q) (Some e) → (room : ℕ) → count (tree f) + weight before ≤ room → length mid < room
  room_left e v room fits =
      let l = h.light in
      let n = few_less f q in
      let i : count (tree e) ≡ count (sub (index q) (tree f)) = ap count (v.1 ∙ sym (sub_index q f)) in
      let s = sum_by-IsPermutation (λ (x : Node). count (tree x)) (h.kids ++ before) mid h.shuffled in
      let a = sum_by-append (λ (x : Node). count (tree x)) h.kids before in
      let b = long_weight mid in
      omega arith

-- the same, of the entries: q is the quadrant with the index i, and found what stands there
module _ {G : Type 0} (code : G → ℕ) (t : Tree) (w : Window) (top : Entry G) (before mid : List (Entry G)) (i : ℕ) (q : Quadrant) (e : index q ≡ i)
    (h : Opening w (node code t top) i (nodes code t before) (nodes code t mid))
    (found : Option (Entry G)) (v : Looked w (quadrant q (square_of top.square)) (child (node code t top) q) (noded code t found)) where
  at_index : Opening w (node code t top) (index q) (nodes code t before) (nodes code t mid)
  at_index = subst (λ (n : ℕ). Opening w (node code t top) n (nodes code t before) (nodes code t mid)) (sym e) h

  pub comes_in : (after : List (Entry G)) → IsPermutation (with found mid) after → Opening w (node code t top) (i + 1) (nodes code t before) (nodes code t after)
  comes_in after s =
      subst (λ (n : ℕ). Opening w (node code t top) (n + 1) (nodes code t before) (nodes code t after)) e
      (another w (node code t top) q _ _ _ at_index (noded code t found) v
      (subst (λ (x : List Node). IsPermutation x (nodes code t after)) (nodes_with code t found mid) (shuffled_map (node code t) _ _ s)))

  pub has_room : (room : ℕ) → count (tree (node code t top)) + weight (nodes code t before) ≤ room → is_some found ≡ true → length mid < room
  has_room room fits some = go found v some
    where
      go : (o : Option (Entry G)) → Looked w (quadrant q (square_of top.square)) (child (node code t top) q) (noded code t o) → is_some o ≡ true → length mid < room
      go None l z = let y : ◌≡◌ {A = ℕ} 0 1 = cc in absurd (omega arith)
      go (Some x) l z =
          let r = room_left w (node code t top) q _ _ (nodes code t mid) at_index (node code t x) l room fits in
          let n = length-map mid (node code t) in omega arith

pub opened : {w : Window} {f : Node} {before after : List Node} → Opening w f 4 before after → Opened w f before after
opened {w} {f} h = record { kids = h.kids; are = kids_all w f h.kids h.are; shuffled = h.shuffled; light = let l = h.light in omega arith }
