-- How many boxes a draw has to open: a count that the numbers of the boxes do not enter; so a draw has one answer, and has one.
use Rattle.std.proofs.Common.{◌≡◌, ℕ, ◌+◌, ◌^◌, ◌<◌, max, Bool, true, false, ◌&&◌, ◌||◌, ltb, leb, ◌⊎◌, List, [], ◌∷◌, ◌++◌, map, filter, length, Decides, refl, ap, inl, inr, arith, length-append}
use Rattle.std.proofs.lemmas.Bool.Decides.{nat_tests, Decides-and, Decides-or}
use Rattle.std.proofs.lemmas.Bool.{false≢true}
use Rattle.grade.specs.Kind.{Kind, Laws}
use Rattle.treap.specs.Spots.{Spot, Outranks}
use Rattle.treap.specs.Trees.{Quadrant, tl, tr, bl, br, Square, quadrant, Tree, none, box, pick, Shows, Ordered, Lone, unnumbered, In, Apart, numbers}
use Rattle.treap.specs.Plants.{outranks}
use Rattle.treap.specs.Sums.{one_if}
use Rattle.treap.specs.Draws.{Window, Sees, Touches, Seen, Best, Part, whole, deeper, cell, Draws, OneDraw, SomeDraw}
use Rattle.treap.proofs.Ranks.{decides_outranks, irrefl_eq}
use Rattle.treap.proofs.Shown.{below, split, one_tree_lem}
use Rattle.treap.proofs.Counts.{same, same_is, is_same}
use Rattle.treap.proofs.Lists.{in_four, from_four, four_in, four_under, each_apart, by_quadrant, quarter, apart_shorter, apart_map}
use Rattle.treap.proofs.Parts.{part_of_part}
use Rattle.treap.proofs.Bests.{Chain, one_best, best_of, best_from_top, top_of, some_top}
use Rattle.treap.proofs.Plants.{kept_in, kept_has}
use Rattle.treap.proofs.Needed.{Reaches, Wanted, Numbered, wanted_is_needed, wanted_is_enough}

-- the square and the window share a cell, as a test
abbrev touches : Square → Window → Bool
touches s w =
    (ltb (max s.top w.top) (s.top + 2 ^ s.level) && leb (max s.top w.top) w.bottom)
    && (ltb (max s.left w.left) (s.left + 2 ^ s.level) && leb (max s.left w.left) w.right)

-- the list has a last mark, and m is that or outranks it, as a test
abbrev reaches : Kind → List Spot → Spot → Bool
reaches k [] m = false
reaches k (x ∷ []) m = same m x || outranks k m x
reaches k (x ∷ y ∷ l) m = reaches k (y ∷ l) m

decides_touches : (s : Square) (w : Window) → Decides (touches s w) (Touches s w)
decides_touches s w = (
  λ e.
      record {
        row = max s.top w.top;
        col = max s.left w.left;
        within = grind (arith, nat_tests);
        seen = grind (arith, nat_tests);
      },
  λ t. let r = t.within in let v = t.seen in
      grind (arith, nat_tests, r.not_above, r.not_below, r.not_left, r.not_right, v.not_above, v.not_below, v.not_left, v.not_right),
)

decides_reaches : (k : Kind) (l : List Spot) (m : Spot) → Decides (reaches k l m) (Reaches k l m)
decides_reaches k [] m = (false≢true, λ h. absurd h)
decides_reaches k (x ∷ []) m =
    Decides-or (same m x) (outranks k m x) (same_is m x, is_same m x) (decides_outranks k m x)
decides_reaches k (x ∷ y ∷ l) m = decides_reaches k (y ∷ l) m

pub touches? : (s : Square) (w : Window) → Dec (Touches s w)
touches? s w =
    elim (touches s w) as (λ v. Decides v (Touches s w) → Dec (Touches s w)) [
      | true ↦ λ d. yes (d.0 refl)
      | false ↦ λ d. no (λ h. false≢true (d.1 h))
    ] (decides_touches s w)

abbrev keep : Bool → ℕ → List ℕ → List ℕ
keep true i l = i ∷ l
keep false i l = l

in_keep : (v : Bool) (i : ℕ) (r : List ℕ) (x : ℕ) → In r x → In (keep v i r) x
in_keep v i r x h = grind arith

kept : (v : Bool) → v ≡ true → (i : ℕ) (z : List ℕ) → In (keep v i z) i
kept v h i z = grind arith

keep_cases : (v : Bool) (S : List ℕ) (i x : ℕ) → (v ≡ true → In S i) → (z : List ℕ) → (In z x → In S x) → In (keep v i z) x → In S x
keep_cases v S i x t z g h = grind arith

length_keep : (v : Bool) (i : ℕ) (r : List ℕ) (c : ℕ) → length r ≡ c → length (keep v i r) ≡ one_if v + c
length_keep v i r c e = grind arith

apart_keep : (v : Bool) (i : ℕ) (z : List ℕ) → (In z i → ⊥) → Apart z → Apart (keep v i z)
apart_keep true i z h g = (h, g)
apart_keep false i z h g = g

module _ (k : Kind) (w : Window) (n : ℕ) (l : List Spot) where
  -- the box of the square s with the mark m is wanted, as a test
  abbrev wants : Square → Spot → Bool
  wants s m = touches s w && (ltb (length l) n || reaches k l m)

  decides_wants : (s : Square) (m : Spot) → Decides (wants s m) (Touches s w × ((length l < n) ⊎ Reaches k l m))
  decides_wants s m =
      Decides-and (touches s w) _ (decides_touches s w)
      (Decides-or (ltb (length l) n) (reaches k l m) (grind (arith, nat_tests), grind (arith, nat_tests)) (decides_reaches k l m))

  -- the numbers of the wanted boxes
  gather : Square → Tree → List ℕ
  gather s none = []
  gather s (box i m a b c d) =
      keep (wants s m) i
      (gather (quadrant tl s) a ++ (gather (quadrant tr s) b ++ (gather (quadrant bl s) c ++ gather (quadrant br s) d)))

  -- how many they are
  abbrev pub tally : Square → Tree → ℕ
  tally s none = 0
  tally s (box i m a b c d) =
      one_if (wants s m)
      + (tally (quadrant tl s) a + (tally (quadrant tr s) b + (tally (quadrant bl s) c + tally (quadrant br s) d)))

  tally_unnumbered : (s : Square) (t : Tree) → tally s (unnumbered t) ≡ tally s t
  tally_unnumbered s none = refl
  tally_unnumbered s (box i m a b c d) =
      omega (arith, tally_unnumbered (quadrant tl s) a, tally_unnumbered (quadrant tr s) b, tally_unnumbered (quadrant bl s) c, tally_unnumbered (quadrant br s) d)

  -- what is gathered in a quadrant
  abbrev part : Square → Tree → Tree → Tree → Tree → Quadrant → List ℕ
  part s a b c d q = gather (quadrant q s) (pick a b c d q)

  length_gather : (s : Square) (t : Tree) → length (gather s t) ≡ tally s t
  unfolding gather
  length_gather s none = refl
  length_gather s (box i m a b c d) =
      length_keep (wants s m) i _ _
      (simp length-append
      (omega (arith, length_gather (quadrant tl s) a, length_gather (quadrant tr s) b, length_gather (quadrant bl s) c, length_gather (quadrant br s) d)))

  in_gather_part : {s : Square} {t : Tree} {r : Square} {u : Tree} → Part s t r u → (x : ℕ) → In (gather r u) x → In (gather s t) x
  unfolding gather
  in_gather_part whole x h = h
  in_gather_part (deeper {r = r} {i = i} {m = m} {a = a} {b = b} {c = c} {d = d} p q) x h =
      in_gather_part p x (in_keep (wants r m) i _ x (in_four (part r a b c d) q x h))

  wanted_gathered : (r : Square) (u : Tree) → Wanted k w n l r u → Numbered (gather r u) u
  unfolding gather
  wanted_gathered r none h = h
  wanted_gathered r (box i m a b c d) h = kept (wants r m) ((decides_wants r m).1 h) i _

  numbered_part : {s : Square} {t : Tree} {r : Square} → (u : Tree) → Part s t r u → Numbered (gather r u) u → Numbered (gather s t) u
  numbered_part none p h = h
  numbered_part (box i m a b c d) p h = in_gather_part p i h

  -- a set that has the wanted boxes has what is gathered
  gathered_in : (S : List ℕ) (s : Square) (t : Tree) → ((r : Square) (u : Tree) → Part s t r u → Wanted k w n l r u → Numbered S u) → (x : ℕ) → In (gather s t) x → In S x
  unfolding gather
  gathered_in S s none f x h = absurd h
  gathered_in S s (box i m a b c d) f x h =
      let down = λ (q : Quadrant) (r : Square) (u : Tree) (p : Part (quadrant q s) (pick a b c d q) r u). f r u (part_of_part (deeper whole q) p) in
      let each : (q : Quadrant) → In (part s a b c d q) x → In S x =
      by_quadrant _ (gathered_in S (quadrant tl s) a (down tl) x) (gathered_in S (quadrant tr s) b (down tr) x) (gathered_in S (quadrant bl s) c (down bl) x) (gathered_in S (quadrant br s) d (down br) x) in
      keep_cases (wants s m) S i x (λ e. f s (box i m a b c d) whole ((decides_wants s m).0 e)) _
      (λ g. let r = from_four (part s a b c d) x g in each r.0 r.1) h

  gathered_numbers : (s : Square) (t : Tree) → (x : ℕ) → In (gather s t) x → In (numbers t) x
  unfolding gather
  gathered_numbers s none x h = h
  gathered_numbers s (box i m a b c d) x h =
      let each : (q : Quadrant) (x : ℕ) → In (part s a b c d q) x → In (quarter a b c d q) x =
      by_quadrant _ (gathered_numbers (quadrant tl s) a) (gathered_numbers (quadrant tr s) b) (gathered_numbers (quadrant bl s) c) (gathered_numbers (quadrant br s) d) in
      keep_cases (wants s m) (numbers (box i m a b c d)) i x (λ _. inl refl) _ (λ g. inr (four_in (quarter a b c d) (part s a b c d) each x g)) h

  gather_apart : (s : Square) (t : Tree) → Apart (numbers t) → Apart (gather s t)
  unfolding gather
  gather_apart s none h = tt
  gather_apart s (box i m a b c d) h =
      let below = each_apart (quarter a b c d) h.1 in
      let within = λ (q : Quadrant). gathered_numbers (quadrant q s) (pick a b c d q) in
      apart_keep (wants s m) i _ (λ g. h.0 (four_in (quarter a b c d) (part s a b c d) within i g))
      (four_under (quarter a b c d) (part s a b c d) within h.1
      (by_quadrant _ (gather_apart (quadrant tl s) a (below tl)) (gather_apart (quadrant tr s) b (below tr)) (gather_apart (quadrant bl s) c (below bl)) (gather_apart (quadrant br s) d (below br))))

-- marks that fall, of which no two stand in one cell, have no cell twice
pub cells_apart : (k : Kind) (l : List Spot)
    → Chain k l
    → ((x y : Spot) → In l x → In l y → x.row ≡ y.row → x.col ≡ y.col → x ≡ y)
    → Apart (map cell l)
cells_apart k l f one =
    apart_map cell (Outranks k) l f
    (λ x y p q o e. irrefl_eq k x y (one x y p q (ap (λ (z : ℕ × ℕ). z.0) e) (ap (λ (z : ℕ × ℕ). z.1) e)) o)

-- the marks of a tree, listed
abbrev pub marks : Tree → List Spot
marks none = []
marks (box i m a b c d) = m ∷ (marks a ++ (marks b ++ (marks c ++ marks d)))

marks_shown : (t : Tree) (x : Spot) → In (marks t) x → Shows t x
marks_shown none x h = h
marks_shown (box i m a b c d) x h =
    let each : (q : Quadrant) → In (marks (pick a b c d q)) x → Shows (pick a b c d q) x =
    by_quadrant _ (marks_shown a x) (marks_shown b x) (marks_shown c x) (marks_shown d x) in
    elim h [ inl e ↦ inl e | inr p ↦ let r = from_four (λ q. marks (pick a b c d q)) x p in below a b c d i m x r.0 (each r.0 r.1) ]

shown_marks : (t : Tree) (x : Spot) → Shows t x → In (marks t) x
shown_marks none x h = h
shown_marks (box i m a b c d) x h =
    let each : (q : Quadrant) → Shows (pick a b c d q) x → In (marks (pick a b c d q)) x =
    by_quadrant _ (shown_marks a x) (shown_marks b x) (shown_marks c x) (shown_marks d x) in
    elim (split a b c d m x i h) [ inl e ↦ inl e | inr v ↦ inr (in_four (λ q. marks (pick a b c d q)) v.0 x (each v.0 v.1)) ]

-- the mark lies in the window, as a test
abbrev pub sees : Window → Spot → Bool
sees w m = (leb w.top m.row && leb m.row w.bottom) && (leb w.left m.col && leb m.col w.right)

decides_sees : (w : Window) (m : Spot) → Decides (sees w m) (Sees w m.row m.col)
decides_sees w m = (λ e. grind (arith, nat_tests), λ v. grind (arith, nat_tests, v.not_above, v.not_below, v.not_left, v.not_right))

-- the n best marks of a tree in a window
abbrev pub best_seen : Kind → Tree → Window → ℕ → List Spot
best_seen k t w n = top_of k n (filter (sees w) (marks t))

module _ (k : Kind) (L : Laws k) (s : Square) (t : Tree) (h : Ordered k s t) (ap' : Apart (numbers t)) (w : Window) (n : ℕ) (pos : 0 < n) where
  -- the best marks of a window, of which no two stand in one cell, are what a draw lists, and the wanted boxes what it opens
  pub best_draws : (l : List Spot) → Best k (Seen t w) n l → Apart (map cell l) → Draws k s t w n l (tally k w n l s t)
  best_draws l b c =
      record {
        best = b;
        cells = c;
        set = gather k w n l s t;
        of_tree = gathered_numbers k w n l s t;
        once = gather_apart k w n l s t ap';
        enough =
            wanted_is_enough k L s t w n l pos b.most (gather k w n l s t)
            (λ r u p v. numbered_part k w n l u p (wanted_gathered k w n l r u v));
        size = length_gather k w n l s t;
        least = λ S j.
            let few =
            apart_shorter (gather k w n l s t) S (gather_apart k w n l s t ap')
            (gathered_in k w n l S s t (λ r u p v. wanted_is_needed k L s t h w n l S j r u p v)) in
            let e = length_gather k w n l s t in
            omega arith;
      }

  -- the count of a draw's answer is the count of the wanted boxes
  opened_is_tally : (l : List Spot) (o : ℕ) → Draws k s t w n l o → o ≡ tally k w n l s t
  opened_is_tally l o dr =
      let dt = best_draws l dr.best dr.cells in
      let up = dr.least dt.set dt.enough in
      let down = dt.least dr.set dr.enough in
      let e = dr.size in
      let f = dt.size in
      omega arith

  pub best_seen_draws : Lone t → Draws k s t w n (best_seen k t w n) (tally k w n (best_seen k t w n) s t)
  best_seen_draws lone =
      let l = best_seen k t w n in
      let r = some_top k L n (filter (sees w) (marks t)) in
      let seen : (x : Spot) → In (filter (sees w) (marks t)) x → Seen t w x =
      λ x p. let v = kept_in (sees w) (marks t) x p in record { shown = marks_shown t x v.0; seen = (decides_sees w x).0 v.1 } in
      let there : (x : Spot) → Seen t w x → In (filter (sees w) (marks t)) x =
      λ x v. kept_has (sees w) (marks t) x (shown_marks t x v.shown) ((decides_sees w x).1 v.seen) in
      best_draws l (best_of k _ (Seen t w) seen there n l (best_from_top k _ n l pos r))
      (cells_apart k l r.chain (λ x y p q. lone x y (seen x (r.listed x p)).shown (seen y (r.listed y q)).shown))

pub some_draw_lem : SomeDraw
some_draw_lem k L s t h lone ap' w n pos =
    (best_seen k t w n, tally k w n (best_seen k t w n) s t, best_seen_draws k L s t h ap' w n pos lone)

pub one_draw_lem : OneDraw
one_draw_lem k L s t u ht hu at au f g w n pos l r o p dt du =
    let el : l ≡ r =
    one_best k L (Seen t w) n l r dt.best
    (best_of k (Seen u w) (Seen t w) (λ x v. record { shown = g x v.shown; seen = v.seen }) (λ x v. record { shown = f x v.shown; seen = v.seen }) n r du.best) in
    let et = opened_is_tally k L s t ht at w n pos l o dt in
    let eu = opened_is_tally k L s u hu au w n pos r p du in
    let en = one_tree_lem k L s t u ht hu f g in
    let nt = tally_unnumbered k w n l s t in
    let nu = tally_unnumbered k w n r s u in
    (el, cc)
