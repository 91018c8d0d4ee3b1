-- The search's steps keep its invariant, and its end is the draw's answer.
use Rattle.std.proofs.Common.{◌≡◌, ℕ, ◌<◌, ◌≤◌, ◌⊎◌, List, [], ◌∷◌, ◌++◌, map, length, Some, sym, refl, ap, subst, subst₂, inl, inr, arith, length-append}
use native.Mathlib.Decide.{dec_lt}
use Rattle.grade.specs.Kind.{Kind, Laws}
use Rattle.treap.specs.Spots.{Spot, Outranks}
use Rattle.treap.specs.Trees.{Quadrant, Square, Within, quadrant, Tree, none, box, pick, Shows, Hangs, Ordered, In, Apart, Lone, numbers}
use Rattle.treap.specs.Draws.{Window, Sees, Touches, Seen, Falls, Part, whole, deeper, Justifies, Draws}
use Rattle.treap.specs.Searches.{Node, tree, child, Share, Spread}
use Rattle.treap.proofs.Ranks.{irrefl_eq, trans, tri}
use Rattle.treap.proofs.Shown.{split, hangs, lawful_quadrant, within_quadrant, root_over}
use Rattle.treap.proofs.Lists.{Pairs, in_first, in_last, in_append, in_four, quarter, in_map, from_map, apart_map, apart_shorter}
use Rattle.treap.proofs.Bests.{Chain, Outdone, chain_from_falls, last_over_from_all, best_from_top}
use Rattle.treap.proofs.Counted.{cells_apart}
use lib.ListN.{length-map}
use Rattle.treap.proofs.Needed.{Reaches, Wanted, Numbered, not_both, part_lawful, touches_up, wanted_is_needed, wanted_is_enough}
use Rattle.treap.proofs.Find.{find_part}
use Rattle.treap.proofs.Parts.{Boxed, part_shown, part_numbers, shown_part, part_first}
pub use Rattle.treap.proofs.Parts.{no_part}

-- the numbers of a quadrant are among those of all four
pub numbers_quadrant : (i : ℕ) (m : Spot) (a b c d : Tree) (q : Quadrant) (n : ℕ) → In (numbers (pick a b c d q)) n → In (numbers a ++ (numbers b ++ (numbers c ++ numbers d))) n
numbers_quadrant i m a b c d q n p = in_four (quarter a b c d) q n p

-- the boxes of the list fell one after the other, the last one first
abbrev pub Fell : Kind → List Node → Type 0
Fell k = Pairs (λ (e f : Node). Outranks k f.mark e.mark)

-- a tree is one of the boxes of the list, or stands below one
abbrev Under : List Node → Square → Tree → Type 0
Under wait r u = (f : Node) × In wait f × Part f.square (tree f) r u

-- the boxes done are opened, and the boxes that wait are all that is left of the window
pub record Walk (k : Kind) (s : Square) (t : Tree) (w : Window) (done wait : List Node) : Type 0 where
  pub done_parts : (e : Node) → In done e → Part s t e.square (tree e) × Touches e.square w
  pub wait_parts : (e : Node) → In wait e → Part s t e.square (tree e) × Touches e.square w
  pub spread : Spread wait
  pub fell : Fell k done
  pub above : (e f : Node) → In done e → In wait f → Outranks k e.mark f.mark
  pub cover : (e : Node) → Part s t e.square (tree e) → Touches e.square w → In done e ⊎ ((f : Node) × In wait f × Part f.square (tree f) e.square (tree e))

-- the marks of the window among the boxes done are listed
pub record Lists (k : Kind) (w : Window) (n : ℕ) (done : List Node) (l : List Spot) : Type 0 where
  pub listed : (x : Spot) → In l x → (e : Node) × In done e × (x ≡ e.mark) × Sees w x.row x.col
  pub all : (e : Node) → In done e → Sees w e.mark.row e.mark.col → In l e.mark
  pub falls : Falls k l
  pub last : length l ≡ n → (e : Node) → In done e → Reaches k l e.mark
  pub most : length l ≤ n

-- the boxes right below f that touch the window
pub record Kids (w : Window) (f : Node) (kids : List Node) : Type 0 where
  pub are : (e : Node) → In kids e → (q : Quadrant) × (e.square ≡ quadrant q f.square) × (tree e ≡ child f q) × Touches e.square w
  pub all : (e : Node) (q : Quadrant) → e.square ≡ quadrant q f.square → tree e ≡ child f q → Touches e.square w → In kids e
  pub spread : Spread kids

abbrev pub Search : Kind → Square → Tree → Window → ℕ → List Node → List Node → List Spot → Type 0
Search k s t w n done wait l = Walk k s t w done wait × Lists k w n done l

-- at first the root waits, if it touches the window
abbrev pub SearchStarts : Type 0
SearchStarts =
    (k : Kind)
    → (e : Node)
    → Ordered k e.square (tree e)
    → (w : Window) (n : ℕ)
    → 0 < n
    → Touches e.square w
    → Search k e.square (tree e) w n [] (e ∷ []) []

-- a box that no waiting box outranks is opened: the boxes below it wait, and its mark is listed if it lies in the window
abbrev pub SearchLists : Type 0
SearchLists =
    (k : Kind)
    → Laws k
    → (s : Square) (t : Tree)
    → Ordered k s t
    → (w : Window) (n : ℕ) (done wait : List Node) (l : List Spot) (f : Node) (kids : List Node)
    → Search k s t w n done (f ∷ wait) l
    → length l < n
    → ((e : Node) → In wait e → Outranks k e.mark f.mark → ⊥)
    → Kids w f kids
    → Sees w f.mark.row f.mark.col
    → Search k s t w n (f ∷ done) (kids ++ wait) (l ++ (f.mark ∷ []))

abbrev pub SearchPasses : Type 0
SearchPasses =
    (k : Kind)
    → Laws k
    → (s : Square) (t : Tree)
    → Ordered k s t
    → (w : Window) (n : ℕ) (done wait : List Node) (l : List Spot) (f : Node) (kids : List Node)
    → Search k s t w n done (f ∷ wait) l
    → length l < n
    → ((e : Node) → In wait e → Outranks k e.mark f.mark → ⊥)
    → Kids w f kids
    → (Sees w f.mark.row f.mark.col → ⊥)
    → Search k s t w n (f ∷ done) (kids ++ wait) l

-- where as many are listed as asked for, or nothing waits, the list and the count of the opened boxes are the draw's answer
abbrev pub SearchEnds : Type 0
SearchEnds =
    (k : Kind)
    → Laws k
    → (s : Square) (t : Tree)
    → Ordered k s t
    → Lone t
    → Apart (numbers t)
    → (w : Window) (n : ℕ)
    → 0 < n
    → (done wait : List Node) (l : List Spot)
    → Search k s t w n done wait l
    → (length l ≡ n) ⊎ (wait ≡ [])
    → Draws k s t w n l (length done)

pub touches_part : (k : Kind) (w : Window) {s : Square} {t : Tree} {r : Square} {u : Tree} → Part s t r u → Ordered k s t → Boxed u → Touches r w → Touches s w
touches_part k w whole h g v = v
touches_part k w (deeper {r = r} {i = i} {m = m} {a = a} {b = b} {c = c} {d = d} p q) h g v =
    let hr = part_lawful k p h in
    touches_part k w p h tt (touches_up r q w (level (pick a b c d q) (hangs k r i m a b c d hr q) g) v)
  where
    level : (u : Tree) → Hangs k r m u → Boxed u → 0 < r.level
    level none h g = absurd g
    level (box _ _ _ _ _ _) h g = h.0

-- the box of a tree, if it has one, in the square
abbrev boxed_in : Square → Tree → Node → Node
boxed_in s none e = e
boxed_in s (box i m a b c d) e = record { square = s; number = i; mark = m; a = a; b = b; c = c; d = d }

pub node_eq : (e f : Node) → e.square ≡ f.square → tree e ≡ tree f → e ≡ f
node_eq e f p q = λ i. boxed_in (p i) (q i) e

-- the mark of a part of f is f's, or f's outranks it
part_below : (k : Kind) → Laws k → (f e : Node) → Ordered k f.square (tree f) → Part f.square (tree f) e.square (tree e) → (e.mark ≡ f.mark) ⊎ Outranks k f.mark e.mark
part_below k L f e h p =
    elim (split f.a f.b f.c f.d f.mark e.mark f.number (part_shown p e.mark (inl refl))) [
      | inl x ↦ inl x
      | inr x ↦ inr (root_over k L f.square f.number f.mark f.a f.b f.c f.d h x.0 e.mark x.1)
    ]

-- lists of marks

falls_push : (k : Kind) (l : List Spot) (m : Spot) → Falls k l → ((x : Spot) → In l x → Outranks k x m) → Falls k (l ++ (m ∷ []))
falls_push k [] m h f = tt
falls_push k (x ∷ []) m h f = (f x (inl refl), tt)
falls_push k (x ∷ y ∷ l) m h f = (h.0, falls_push k (y ∷ l) m h.1 (λ z p. f z (inr p)))

reaches_push : (k : Kind) (l : List Spot) (m x : Spot) → (x ≡ m) ⊎ Outranks k x m → Reaches k (l ++ (m ∷ [])) x
reaches_push k [] m x h = h
reaches_push k (y ∷ []) m x h = h
reaches_push k (y ∷ z ∷ l) m x h = reaches_push k (z ∷ l) m x h

pub spread_joined : (l r : List Node) → Spread l → Spread r → ((e f : Node) → In l e → In r f → Share e.square f.square → ⊥) → Spread (l ++ r)
spread_joined [] r hl hr f = hr
spread_joined (x ∷ l) r hl hr f = (
  λ g p. elim (in_append l r g p) [ inl q ↦ hl.0 g q | inr q ↦ f x g (inl refl) q ],
  spread_joined l r hl.1 hr (λ e g p. f e g (inr p)),
)

pub search_starts : SearchStarts
search_starts k e h w n pos touch = (
  record {
    done_parts = λ f p. absurd p;
    wait_parts = λ f p. elim p [
      | inl q ↦ subst (λ (g : Node). Part e.square (tree e) g.square (tree g) × Touches g.square w) (sym q) (whole, touch)
      | inr q ↦ absurd q
    ];
    spread = (λ f p. absurd p, tt);
    fell = tt;
    above = λ f g p. absurd p;
    cover = λ f p v. inr (e, inl refl, p);
  },
  record { listed = λ x p. absurd p; all = λ f p. absurd p; falls = tt; last = λ z f p. absurd p; most = omega arith },
)

-- the next box is opened
module _ (k : Kind) (L : Laws k) (s : Square) (t : Tree) (h : Ordered k s t) (w : Window) (done wait : List Node) (f : Node) (kids : List Node) (walk : Walk k s t w done (f ∷ wait)) (best : (e : Node) → In wait e → Outranks k e.mark f.mark → ⊥) (K : Kids w f kids) where
  part_f : Part s t f.square (tree f)
  part_f = (walk.wait_parts f (inl refl)).0

  lawful_f : Ordered k f.square (tree f)
  lawful_f = part_lawful k part_f h

  kid_part : (e : Node) → In kids e → Part s t e.square (tree e)
  kid_part e p =
      let r = K.are e p in
      subst₂ (λ (v : Square) (y : Tree). Part s t v y) (sym r.1) (sym r.2) (deeper part_f r.0)

  kid_below : (e : Node) → In kids e → (0 < f.square.level) × Outranks k f.mark e.mark
  kid_below e p =
      let r = K.are e p in
      subst (λ (y : Tree). Hangs k f.square f.mark y) (sym r.2) (hangs k f.square f.number f.mark f.a f.b f.c f.d lawful_f r.0)

  wait_below : (e : Node) → In wait e → Outranks k f.mark e.mark
  wait_below e p =
      elim (tri k L f.mark e.mark) [
        | inl x ↦ x
        | inr (inl x) ↦ absurd (
            walk.spread.0 e p
            record {
              row = e.mark.row;
              col = e.mark.col;
              first = subst (λ (y : Spot). Within f.square y.row y.col) x lawful_f.0.inside;
              second = (part_lawful k (walk.wait_parts e (inr p)).0 h).0.inside;
            }
            )
        | inr (inr x) ↦ absurd (best e p x)
      ]

  next_below : (e : Node) → In (kids ++ wait) e → Outranks k f.mark e.mark
  next_below e p = elim (in_append kids wait e p) [ inl x ↦ (kid_below e x).1 | inr x ↦ wait_below e x ]

  -- a box of a quadrant of f is below a box that now waits
  under_kid : (e : Node) (q : Quadrant) (u : Tree) → u ≡ child f q → Ordered k (quadrant q f.square) u → Part (quadrant q f.square) u e.square (tree e) → Touches e.square w → Under (kids ++ wait) e.square (tree e)
  under_kid e q none eq hu p v = absurd (no_part p tt)
  under_kid e q (box i m a b c d) eq hu p v =
      let g : Node = record { square = quadrant q f.square; number = i; mark = m; a = a; b = b; c = c; d = d } in
      (g, in_first kids wait g (K.all g q refl eq (touches_part k w p hu tt v)), p)

  step_cover : (e : Node) → Part s t e.square (tree e) → Touches e.square w → In (f ∷ done) e ⊎ Under (kids ++ wait) e.square (tree e)
  step_cover e p v =
      elim (walk.cover e p v) [
        | inl x ↦ inl (inr x)
        | inr (g, inl x, z) ↦ elim (part_first (subst (λ (y : Node). Part y.square (tree y) e.square (tree e)) x z)) [
          | inl y ↦ inl (inl (node_eq e f y.0 y.1))
          | inr y ↦ inr (under_kid e y.0 (child f y.0) refl (lawful_quadrant k f.square f.number f.mark f.a f.b f.c f.d lawful_f y.0) y.1 v)
        ]
        | inr (g, inr x, z) ↦ inr (g, in_last kids wait g x, z)
      ]

  pub walk_on : Walk k s t w (f ∷ done) (kids ++ wait)
  walk_on =
      record {
        done_parts = λ e p. elim p [
          | inl x ↦ subst (λ (y : Node). Part s t y.square (tree y) × Touches y.square w) (sym x) (walk.wait_parts f (inl refl))
          | inr x ↦ walk.done_parts e x
        ];
        wait_parts = λ e p. elim (in_append kids wait e p) [ inl x ↦ (kid_part e x, (K.are e x).3) | inr x ↦ walk.wait_parts e (inr x) ];
        spread =
            spread_joined kids wait K.spread walk.spread.1
            (λ e g p q share.
            walk.spread.0 g q
            record {
              row = share.row;
              col = share.col;
              first =
                  within_quadrant f.square (K.are e p).0 share.row share.col (kid_below e p).0
                  (subst (λ (y : Square). Within y share.row share.col) (K.are e p).1 share.first);
              second = share.second;
            });
        fell = (λ e p. walk.above e f p (inl refl), walk.fell);
        above = λ e g p q. elim p [
          | inl x ↦ subst (λ (y : Node). Outranks k y.mark g.mark) (sym x) (next_below g q)
          | inr x ↦ trans k L e.mark f.mark g.mark (walk.above e f x (inl refl)) (next_below g q)
        ];
        cover = step_cover;
      }

-- and its mark is listed if the window sees it
module _ (k : Kind) (L : Laws k) (s : Square) (t : Tree) (h : Ordered k s t) (w : Window) (n : ℕ) (done wait : List Node) (l : List Spot) (f : Node) (kids : List Node) (st : Search k s t w n done (f ∷ wait) l) (few : length l < n) (best : (e : Node) → In wait e → Outranks k e.mark f.mark → ⊥) (K : Kids w f kids) where
  abbrev walk : Walk k s t w done (f ∷ wait)
  walk = st.0

  walked : Walk k s t w (f ∷ done) (kids ++ wait)
  walked = walk_on k L s t h w done wait f kids walk best K

  lists_on : Sees w f.mark.row f.mark.col → Search k s t w n (f ∷ done) (kids ++ wait) (l ++ (f.mark ∷ []))
  lists_on seen = (
    walked,
    record {
      listed = λ x p. elim (in_append l (f.mark ∷ []) x p) [
        | inl y ↦ let r = st.1.listed x y in (r.0, inr r.1, r.2, r.3)
        | inr (inl y) ↦ (f, inl refl, y, subst (λ (z : Spot). Sees w z.row z.col) (sym y) seen)
        | inr (inr y) ↦ absurd y
      ];
      all = λ e p v. elim p [
        | inl x ↦ in_last l (f.mark ∷ []) e.mark (inl (ap (λ (y : Node). y.mark) x))
        | inr x ↦ in_first l (f.mark ∷ []) e.mark (st.1.all e x v)
      ];
      falls =
          falls_push k l f.mark st.1.falls
          (λ x p. let r = st.1.listed x p in subst (λ (y : Spot). Outranks k y f.mark) (sym r.2) (walk.above r.0 f r.1 (inl refl)));
      last = λ _ e p. reaches_push k l f.mark e.mark (elim p [ inl x ↦ inl (ap (λ (y : Node). y.mark) x) | inr x ↦ inr (walk.above e f x (inl refl)) ]);
      most = simp length-append (omega arith);
    },
  )

  passes_on : (Sees w f.mark.row f.mark.col → ⊥) → Search k s t w n (f ∷ done) (kids ++ wait) l
  passes_on unseen = (
    walked,
    record {
      listed = λ x p. let r = st.1.listed x p in (r.0, inr r.1, r.2, r.3);
      all = λ e p v. elim p [ inl x ↦ absurd (unseen (subst (λ (y : Node). Sees w y.mark.row y.mark.col) x v)) | inr x ↦ st.1.all e x v ];
      falls = st.1.falls;
      last = λ e. absurd (omega arith);
      most = st.1.most;
    },
  )

pub search_lists : SearchLists
search_lists = lists_on

pub search_passes : SearchPasses
search_passes = passes_on

-- two boxes with one number have one mark
pub one_number : (s : Square) (t : Tree) → Apart (numbers t) → (e f : Node) → Part s t e.square (tree e) → Part s t f.square (tree f) → e.number ≡ f.number → e.mark ≡ f.mark
one_number s t h e f p q x =
    cc (find_part s t e.number e.square (tree e) p h refl, find_part s t e.number f.square (tree f) q h (ap Some (sym x)))

abbrev name : Node → ℕ
name e = e.number

pub search_ends : SearchEnds
search_ends k L s t h lone ap' w n pos done wait l st end =
    record {
      best =
          best_from_top k (Seen t w) n l pos
          record { listed = λ x p. record { shown = shown x p; seen = (st.1.listed x p).3 }; chain = chain; rest = place; most = st.1.most };
      cells = cells_apart k l chain (λ x y p q. lone x y (shown x p) (shown y q));
      set = map name done;
      of_tree = λ i p. let r = from_map name done i p in
          subst (λ (z : ℕ). In (numbers t) z) (sym r.2) (part_numbers (st.0.done_parts r.0 r.1).0 r.0.number (inl refl));
      once = once;
      enough = wanted_is_enough k L s t w n l pos st.1.most (map name done) needs;
      size = length-map done name;
      least = λ S j.
          let le = apart_shorter (map name done) S once (λ i p. has S j i (from_map name done i p)) in
          let e = length-map done name in
          omega arith;
    }
  where
    chain : Chain k l
    chain = chain_from_falls k L l st.1.falls

    shown : (x : Spot) → In l x → Shows t x
    shown x p = let r = st.1.listed x p in part_shown (st.0.done_parts r.0 r.1).0 x (inl r.2)

    once : Apart (map name done)
    once =
        apart_map name (λ (e f : Node). Outranks k f.mark e.mark) done st.0.fell
        (λ e f p q o x. irrefl_eq k f.mark e.mark (sym (one_number s t ap' e f (st.0.done_parts e p).0 (st.0.done_parts f q).0 x)) o)

    -- what lies below a waiting box is outranked by all that is listed, and as many are listed as asked for
    waits : (e : Node) → Under wait e.square (tree e) → Outdone k n l e.mark
    waits e (g, p, q) = (
      elim end [ inl x ↦ x | inr x ↦ absurd (subst (λ (z : List Node). In z g) x p) ],
      λ x v. let r = st.1.listed x v in
          let top : Outranks k x g.mark = subst (λ (y : Spot). Outranks k y g.mark) (sym r.2) (st.0.above r.0 g r.1 p) in
          elim (part_below k L g e (part_lawful k (st.0.wait_parts g p).0 h) q) [
            | inl y ↦ subst (λ (z : Spot). Outranks k x z) (sym y) top
            | inr y ↦ trans k L x g.mark e.mark top y
          ],
    )

    -- where a seen mark is
    place : (x : Spot) → Seen t w x → In l x ⊎ Outdone k n l x
    place x v =
        let m = shown_part s t x v.shown in
        subst (λ (z : Spot). In l z ⊎ Outdone k n l z) m.2
        (elim (st.0.cover m.0 m.1 record { row = x.row; col = x.col; within = subst (λ (y : Spot). Within m.0.square y.row y.col) m.2 (part_lawful k m.1 h).0.inside; seen = v.seen }) [
          | inl y ↦ inl (st.1.all m.0 y (subst (λ (z : Spot). Sees w z.row z.col) (sym m.2) v.seen))
          | inr y ↦ inr (waits m.0 y)
        ])

    needs : (r : Square) (u : Tree) → Part s t r u → Wanted k w n l r u → Numbered (map name done) u
    needs r none p v = v
    needs r (box i m a b c d) p v =
        elim (st.0.cover e p v.0) [
          | inl y ↦ in_map name done e y
          | inr y ↦ let z = waits e y in
              absurd (elim v.1 [ inl lt ↦ omega (arith, z.0) | inr reach ↦ not_both k L l m reach (last_over_from_all k l m (omega (arith, z.0)) z.1) ])
        ]
      where
        e : Node
        e = record { square = r; number = i; mark = m; a = a; b = b; c = c; d = d }

    has : (S : List ℕ) → Justifies k s t w n l S → (i : ℕ) → ((e : Node) × In done e × (i ≡ e.number)) → In S i
    has S j i r =
        let p = st.0.done_parts r.0 r.1 in
        let most = st.1.most in
        let want : (length l < n) ⊎ Reaches k l r.0.mark =
        elim (dec_lt (length l) n) [ yes lt ↦ inl lt | no ge ↦ inr (st.1.last (omega arith) r.0 r.1) ] in
        subst (λ (z : ℕ). In S z) (sym r.2) (wanted_is_needed k L s t h w n l S j r.0.square (tree r.0) p.0 (p.1, want))
