-- The search runs: what holds from turn to turn.
use Rattle.std.proofs.Common.{◌≡◌, ℕ, ◌+◌, ◌<◌, ◌≤◌, Bool, true, false, cond, ◌⊎◌, List, [], ◌∷◌, ◌++◌, map, length, take, drop, set, Some, None, Option, sym, refl, ap, ◌∙◌, subst, subst₂, inl, inr, arith}
use lib.ListN.{length-map}
use Rattle.std.specs.List.Sorted.{IsPermutation}
use Rattle.std.specs.List.{AllByRecursion}
use Rattle.std.proofs.lemmas.Bool.{true≢false}
use Rattle.std.proofs.lemmas.List.{length-set, length-take-le, take_more_set, map-append, drop-set-lt, drop-drop}
use Rattle.std.proofs.lemmas.List.Sorted.{All-permutation, sum_by-IsPermutation}
use Rattle.std.proofs.lemmas.List.Elements.{recursion_from_All, All-tail}
use Rattle.std.proofs.lemmas.List.Sums.{sum_by-cons, sum_by-append}
use Rattle.grade.specs.Kind.{Kind, Laws}
use Rattle.treap.specs.Spots.{Spot, Outranks}
use Rattle.treap.specs.Trees.{Square, Tree, count, Ordered, In, Meaning, Lawful}
use Rattle.treap.specs.Draws.{Window, Touches, Part, Draws}
use Rattle.treap.specs.Searches.{Node, tree}
use Rattle.treap.proofs.Walks.{Walk, Kids, Search, no_part, touches_part, search_starts, search_lists, search_passes, search_ends}
use Rattle.treap.proofs.Runs.{idle, brood, brood_kids}
use Rattle.treap.proofs.Shuffles.{walk_shuffled}
use Rattle.queue.specs.Ranks.{Top}
use Rattle.boxtree.specs.declared.mark.Mark.{Mark}
use Rattle.boxtree.specs.Marks.{spot_of}
use Rattle.boxtree.specs.Squares.{square_of}
use Rattle.draw.specs.declared.entry.Entry.{Entry}
use Rattle.draw.specs.Ranked.{ranked}
use Rattle.draw.specs.Nodes.{node, noded, nodes, Looked, seeing, weight}
use Rattle.draw.specs.Opened.{with, Enlisted}
use Rattle.draw.specs.Orders.{passes}
use Rattle.draw.proofs.Looking.{seeing_yes, seeing_no}
use Rattle.draw.proofs.Opening.{Opened, shuffled_map, nodes_with}

-- after some turns: the search stands, its boxes are counted, and no more wait than are left
pub record Running {G : Type 0} (k : Kind) (code : G → ℕ) (m : Meaning) (w : Window) (n : ℕ) (queue : List (Entry G)) (list : List (Mark G)) (listed opened : ℕ) : Type 0 where
  pub done : List Node
  pub search : Search k m.square m.tree w n done (nodes code m.tree queue) (map (spot_of code) (take listed list))
  pub counted : length done ≡ opened
  pub light : opened + weight (nodes code m.tree queue) ≤ count m.tree

weigh_shuffled : (l r : List Node) → IsPermutation l r → weight r ≡ weight l
weigh_shuffled l r s = sum_by-IsPermutation (λ (e : Node). count (tree e)) l r s

module _ {G : Type 0} {k : Kind} (code : G → ℕ) {m : Meaning} (h : Lawful k m) (w : Window) {n : ℕ} (pos : 0 < n) where
  -- at first the root waits, if it touches the window
  first_search : (o : Option Node) → Looked w m.square m.tree o → Search k m.square m.tree w n [] (with o []) []
  first_search None (inl e) = idle k m.square m.tree w n pos (λ f p v. no_part (subst (λ (t : Tree). Part m.square t f.square (tree f)) e p) tt)
  first_search None (inr e) = idle k m.square m.tree w n pos (λ f p v. e (touches_part k w p h.ordered tt v))
  first_search (Some e) v =
      subst₂ (λ (s : Square) (t : Tree). Search k s t w n [] (e ∷ []) []) v.0 v.1
      (search_starts k e (subst₂ (λ (s : Square) (t : Tree). Ordered k s t) (sym v.0) (sym v.1) h.ordered) w n pos (subst (λ (s : Square). Touches s w) (sym v.0) v.2))

  first_light : (o : Option Node) → Looked w m.square m.tree o → weight (with o []) ≤ count m.tree
  first_light None v = omega arith
  first_light (Some e) v = let c = sum_by-cons (λ (x : Node). count (tree x)) e [] in let i = ap count v.1 in omega arith

  pub begins : (found : Option (Entry G)) (before queue : List (Entry G)) (list : List (Mark G)) → Looked w m.square m.tree (noded code m.tree found) → before ≡ [] → IsPermutation (with found before) queue → Running k code m w n queue list 0 0
  begins found before queue list v e s =
      let o = noded code m.tree found in
      let came : IsPermutation (with o []) (nodes code m.tree queue) =
      subst (λ (x : List Node). IsPermutation x (nodes code m.tree queue)) (nodes_with code m.tree found [])
      (shuffled_map (node code m.tree) _ _ (subst (λ (b : List (Entry G)). IsPermutation (with found b) queue) e s)) in
      let st = first_search o v in
      record {
        done = [];
        search = (walk_shuffled k m.square m.tree w [] (with o []) (nodes code m.tree queue) came st.0, st.1);
        counted = refl;
        light = let a = weigh_shuffled _ _ came in let b = first_light o v in omega arith;
      }

-- a place that is written does not count among those beyond it
rest_stays : {X : Type 0} (xs ys : List X) (i : ℕ) (x : X) → drop i xs ≡ drop i ys → drop (i + 1) (set xs i x) ≡ drop (i + 1) ys
rest_stays {X} xs ys i x e = drop-set-lt (i + 1) xs i x (omega arith) ∙ sym (drop-drop 1 i xs) ∙ ap (λ (l : List X). drop 1 l) e ∙ drop-drop 1 i ys

module _ {G : Type 0} (k : Kind) (code : G → ℕ) (m : Meaning) where
  not_over : (top : Entry G) (rest : List (Entry G)) → AllByRecursion (λ e. ranked k code e top ≡ false) rest → (x : Node) → In (nodes code m.tree rest) x → Outranks k x.mark (spot_of code top.mark) → ⊥
  not_over top [] a x i o = i
  not_over top (e ∷ rest) a x (inl i) o =
      true≢false (sym (passes k (spot_of code e.mark) (spot_of code top.mark) (subst (λ (y : Node). Outranks k y.mark (spot_of code top.mark)) i o)) ∙ a.0)
  not_over top (e ∷ rest) a x (inr i) o = not_over top rest a.1 x i o

-- a turn begins: the top is taken out of the queue, and a place of the list is left
pub record Turn {G : Type 0} (k : Kind) (code : G → ℕ) (m : Meaning) (w : Window) (n : ℕ) (queue rest : List (Entry G)) (top : Entry G) (list : List (Mark G)) (listed opened : ℕ) : Type 0 where
  pub best : Top (ranked k code) top queue
  pub popped : IsPermutation queue (top ∷ rest)
  pub places : length list ≡ n
  pub left : listed < n
  pub running : Running k code m w n queue list listed opened

pub turn : {G : Type 0} {k : Kind} {code : G → ℕ} {m : Meaning} {w : Window} {n : ℕ} {queue rest : List (Entry G)} {top : Entry G} {list : List (Mark G)} {listed opened : ℕ}
    → Top (ranked k code) top queue × IsPermutation queue (top ∷ rest)
    → length list ≡ n
    → listed < n
    → Running k code m w n queue list listed opened
    → Turn k code m w n queue rest top list listed opened
turn p s l r = record { best = p.0; popped = p.1; places = s; left = l; running = r }

module _ {G : Type 0} {k : Kind} {code : G → ℕ} {m : Meaning} {w : Window} {n : ℕ} {queue rest : List (Entry G)} {top : Entry G} {list : List (Mark G)} {listed opened : ℕ}
    (L : Laws k) (h : Lawful k m) (t : Turn k code m w n queue rest top list listed opened) where
  walk : Walk k m.square m.tree w t.running.done (node code m.tree top ∷ nodes code m.tree rest)
  walk = walk_shuffled k m.square m.tree w t.running.done (nodes code m.tree queue) _ (shuffled_map (node code m.tree) _ _ t.popped) t.running.search.0

  weighs : weight (nodes code m.tree queue) ≡ count (tree (node code m.tree top)) + weight (nodes code m.tree rest)
  weighs =
      let a = weigh_shuffled _ _ (shuffled_map (node code m.tree) _ _ t.popped) in
      let c = sum_by-cons (λ (x : Node). count (tree x)) (node code m.tree top) (nodes code m.tree rest) in
      omega arith

  pub top_part : Part m.square m.tree (square_of top.square) (tree (node code m.tree top))
  top_part = (walk.wait_parts (node code m.tree top) (inl refl)).0

  pub top_fits : (room : ℕ) → m.ceiling ≤ room → count (tree (node code m.tree top)) + weight (nodes code m.tree rest) ≤ room
  top_fits room fits = omega (arith, weighs, t.running.light, h.counted)

  pub counts_on : opened + 1 ≤ m.ceiling
  counts_on = omega (arith, weighs, t.running.light, h.counted)

  none_over : (x : Node) → In (nodes code m.tree rest) x → Outranks k x.mark (spot_of code top.mark) → ⊥
  none_over =
      let level : Entry G → Type 0 = λ e. ranked k code e top ≡ false in
      not_over k code m top rest (recursion_from_All level rest (All-tail level top rest (All-permutation level queue (top ∷ rest) t.popped t.best)))

  few : length (map (spot_of code) (take listed list)) < n
  few = omega (arith, t.left, t.places, length-map (take listed list) (spot_of code), length-take-le listed list (omega (arith, t.left, t.places)))

  longer : map (spot_of code) (take listed list) ++ (spot_of code top.mark ∷ []) ≡ map (spot_of code) (take (listed + 1) (set list listed top.mark))
  longer = sym (ap (map (spot_of code)) (take_more_set list listed top.mark (omega (arith, t.left, t.places))) ∙ map-append (spot_of code) (take listed list) (top.mark ∷ []))

  -- the box is opened, and the boxes of kids wait in its place
  module _ (kids : List Node) (are : Kids w (node code m.tree top) kids) where
    passes_on : seeing w (spot_of code top.mark) ≡ false
        → Search k m.square m.tree w n (node code m.tree top ∷ t.running.done) (kids ++ nodes code m.tree rest) (map (spot_of code) (take listed list))
    passes_on unseen =
        search_passes k L m.square m.tree h.ordered w n t.running.done (nodes code m.tree rest) _ (node code m.tree top) kids (walk, t.running.search.1) few none_over are
        (seeing_no w (spot_of code top.mark) unseen)

    lists_on : seeing w (spot_of code top.mark) ≡ true
        → Search k m.square m.tree w n (node code m.tree top ∷ t.running.done) (kids ++ nodes code m.tree rest) (map (spot_of code) (take (listed + 1) (set list listed top.mark)))
    lists_on seen =
        subst (λ (l : List Spot). Search k m.square m.tree w n (node code m.tree top ∷ t.running.done) (kids ++ nodes code m.tree rest) l) longer
        (search_lists k L m.square m.tree h.ordered w n t.running.done (nodes code m.tree rest) _ (node code m.tree top) kids (walk, t.running.search.1) few none_over are
        (seeing_yes w (spot_of code top.mark) seen))

    goes_on : (list' : List (Mark G)) (listed' : ℕ)
        → Enlisted code w top.mark listed list list' listed'
        → Search k m.square m.tree w n (node code m.tree top ∷ t.running.done) (kids ++ nodes code m.tree rest) (map (spot_of code) (take listed' list'))
    goes_on list' listed' e = go (seeing w (spot_of code top.mark)) refl e.counted e.stored
      where
        Here : List (Mark G) → ℕ → Type 0
        Here l i = Search k m.square m.tree w n (node code m.tree top ∷ t.running.done) (kids ++ nodes code m.tree rest) (map (spot_of code) (take i l))

        go : (v : Bool) → seeing w (spot_of code top.mark) ≡ v → listed' ≡ cond v (listed + 1) listed → list' ≡ cond v (set list listed top.mark) list → Here list' listed'
        go true s c d = subst₂ Here (sym d) (sym c) (lists_on s)
        go false s c d = subst₂ Here (sym d) (sym c) (passes_on s)

  module _ (list' : List (Mark G)) (listed' : ℕ) (enlisted : Enlisted code w top.mark listed list list' listed') where
    -- the list is as long, is filled so far at most, and is as it was beyond
    pub list_size : length list' ≡ n
    list_size = go (seeing w (spot_of code top.mark)) enlisted.stored
      where
        go : (v : Bool) → list' ≡ cond v (set list listed top.mark) list → length list' ≡ n
        go true e = ap length e ∙ length-set list listed top.mark ∙ t.places
        go false e = ap length e ∙ t.places

    pub list_filled : listed' ≤ n
    list_filled = go (seeing w (spot_of code top.mark)) enlisted.counted
      where
        go : (v : Bool) → listed' ≡ cond v (listed + 1) listed → listed' ≤ n
        go true e = omega (arith, t.left)
        go false e = omega (arith, t.left)

    pub list_rest : (before : List (Mark G)) → drop listed list ≡ drop listed before → drop listed' list' ≡ drop listed' before
    list_rest before same = go (seeing w (spot_of code top.mark)) enlisted.counted enlisted.stored
      where
        Here : List (Mark G) → ℕ → Type 0
        Here l i = drop i l ≡ drop i before

        go : (v : Bool) → listed' ≡ cond v (listed + 1) listed → list' ≡ cond v (set list listed top.mark) list → drop listed' list' ≡ drop listed' before
        go true c d = subst₂ Here (sym d) (sym c) (rest_stays list before listed top.mark same)
        go false c d = subst₂ Here (sym d) (sym c) same

    -- the last place is filled: what stands below the box need not wait
    pub fills : 0 < n → listed' ≡ n → Draws k m.square m.tree w n (map (spot_of code) (take listed' list')) (opened + 1)
    fills pos last =
        let e = node code m.tree top in
        let long : length (map (spot_of code) (take listed' list')) ≡ n =
        omega (arith, length-map (take listed' list') (spot_of code), length-take-le listed' list' (omega (arith, list_size))) in
        subst (λ (o : ℕ). Draws k m.square m.tree w n (map (spot_of code) (take listed' list')) o) (omega (arith, t.running.counted))
        (search_ends k L m.square m.tree h.ordered h.lone h.apart w n pos (e ∷ t.running.done) _ _ (goes_on (brood w e) (brood_kids w e) list' listed' enlisted) (inl long))

    -- else the boxes right below wait
    module _ (next : List (Entry G)) (o : Opened w (node code m.tree top) (nodes code m.tree rest) (nodes code m.tree next)) where
      pub lighter : weight (nodes code m.tree next) < weight (nodes code m.tree queue)
      lighter =
          omega
          (arith, weighs, weigh_shuffled _ _ o.shuffled, sum_by-append (λ (x : Node). count (tree x)) o.kids (nodes code m.tree rest), o.light)

      pub runs_on : Running k code m w n next list' listed' (opened + 1)
      runs_on =
          let s = goes_on o.kids o.are list' listed' enlisted in
          record {
            done = node code m.tree top ∷ t.running.done;
            search = (walk_shuffled k m.square m.tree w (node code m.tree top ∷ t.running.done) _ _ o.shuffled s.0, s.1);
            counted = omega (arith, t.running.counted);
            light = omega (arith, lighter, t.running.light);
          }

module _ {G : Type 0} {k : Kind} {code : G → ℕ} {m : Meaning} {w : Window} {n : ℕ} {queue : List (Entry G)} {list : List (Mark G)} {listed opened : ℕ}
    (L : Laws k) (h : Lawful k m) (pos : 0 < n) (r : Running k code m w n queue list listed opened) where
  finish : (length (map (spot_of code) (take listed list)) ≡ n) ⊎ (nodes code m.tree queue ≡ []) → Draws k m.square m.tree w n (map (spot_of code) (take listed list)) opened
  finish e =
      subst (λ (o : ℕ). Draws k m.square m.tree w n (map (spot_of code) (take listed list)) o) r.counted
      (search_ends k L m.square m.tree h.ordered h.lone h.apart w n pos r.done _ _ r.search e)

  pub empty : queue ≡ [] → Draws k m.square m.tree w n (map (spot_of code) (take listed list)) opened
  empty e = finish (inr (ap (nodes code m.tree) e))
