-- A floor over an ordered tree is ordered, and so is an ordered tree moved; and what they show.
use Rattle.std.proofs.Common.{◌≡◌, ℕ, Bool, true, false, ◌⊎◌, sym, refl, ap, subst, inl, inr, arith}
use Rattle.grade.specs.Kind.{Kind, Laws}
use Rattle.treap.specs.Spots.{Spot, Outranks}
use Rattle.treap.specs.Trees.{Quadrant, tl, tr, bl, br, Square, quadrant, Tree, none, box, pick, Shows, Hangs, Ordered, In, Apart, numbers}
use Rattle.treap.specs.Layers.{kept, floor, FloorShows, moved_spot, moved_square, moved, ShiftShows}
use Rattle.treap.proofs.Shown.{root_over, split, below}
use Rattle.treap.proofs.Lists.{four_in, four_under, each_apart, by_quadrant, quarter}

either_map : {A B C D : Type 0} → (A → C) → (B → D) → A ⊎ B → C ⊎ D
either_map f g (inl x) = inl (f x)
either_map f g (inr x) = inr (g x)

-- the grade of a mark that outranks another stands above or level with its
pub level_from_outranks : (k : Kind) → Laws k → (m n : Spot) → Outranks k m n → (k.above m.grade n.grade ≡ true)
unfolding Outranks
level_from_outranks k L m n (inl h) = h.0
level_from_outranks k L m n (inr h) = subst (λ (x : ℕ). (k.above m.grade x ≡ true)) h.0 (elim (L.total m.grade m.grade) [ inl x ↦ x | inr x ↦ x ])

-- what holds of no box and of the tree, where that is kept, holds of what is left
pub by_kept : (P : Tree → Type 0) (v : Bool) (t : Tree) → P none → (v ≡ true → P t) → P (kept v t)
by_kept P true t p q = q refl
by_kept P false t p q = p

module _ (k : Kind) (L : Laws k) (g : ℕ) where
  hangs_floor : (s : Square) (m : Spot) (t : Tree) → Hangs k s m t → Hangs k s m (floor k g t)
  hangs_floor s m none h = tt
  hangs_floor s m (box i x a b c d) h = by_kept (Hangs k s m) (k.above x.grade g) _ tt (λ _. h)

  lawful_floor : (s : Square) (t : Tree) → Ordered k s t → Ordered k s (floor k g t)
  lawful_floor s none h = tt
  lawful_floor s (box i m a b c d) h =
      let here : Ordered k s (box i m (floor k g a) (floor k g b) (floor k g c) (floor k g d)) = (
        h.0,
        (hangs_floor s m a h.1.0, hangs_floor s m b h.1.1, hangs_floor s m c h.1.2, hangs_floor s m d h.1.3),
        (lawful_floor (quadrant tl s) a h.2.0, lawful_floor (quadrant tr s) b h.2.1, lawful_floor (quadrant bl s) c h.2.2, lawful_floor (quadrant br s) d h.2.3),
      ) in
      by_kept (Ordered k s) (k.above m.grade g) _ tt (λ _. here)

  abbrev On : Tree → Spot → Type 0
  On t x = Shows t x × (k.above x.grade g ≡ true)

  floor_on : (t : Tree) (x : Spot) → Shows (floor k g t) x → On t x
  floor_on none x h = absurd h
  floor_on (box i m a b c d) x h =
      let each : (q : Quadrant) → Shows (pick (floor k g a) (floor k g b) (floor k g c) (floor k g d) q) x → On (pick a b c d q) x =
      by_quadrant _ (floor_on a x) (floor_on b x) (floor_on c x) (floor_on d x) in
      by_kept (λ u. Shows u x → On (box i m a b c d) x) (k.above m.grade g) _ (λ v. absurd v)
      (λ e v. elim (split (floor k g a) (floor k g b) (floor k g c) (floor k g d) m x i v) [
        | inl y ↦ (inl y, subst (λ (p : Spot). k.above p.grade g ≡ true) (sym y) e)
        | inr y ↦ let r = each y.0 y.1 in (below a b c d i m x y.0 r.0, r.1)
      ])
      h

  -- where a mark that is shown reaches g, the root's does
  pub floor_high : (s : Square) (i : ℕ) (m : Spot) (a b c d : Tree) → Ordered k s (box i m a b c d) → (x : Spot) → Shows (box i m a b c d) x → k.above x.grade g ≡ true → k.above m.grade g ≡ true
  floor_high s i m a b c d h x v p =
      elim (split a b c d m x i v) [
        | inl e ↦ subst (λ (y : Spot). k.above y.grade g ≡ true) e p
        | inr r ↦ L.trans m.grade x.grade g (level_from_outranks k L m x (root_over k L s i m a b c d h r.0 x r.1)) p
      ]

  on_floor : (s : Square) (t : Tree) → Ordered k s t → (x : Spot) → (k.above x.grade g ≡ true) → Shows t x → Shows (floor k g t) x
  on_floor s none h x p v = v
  on_floor s (box i m a b c d) h x p v =
      rw (floor_high s i m a b c d h x v p)
      (either_map (λ e. e)
      (either_map (on_floor (quadrant tl s) a h.2.0 x p)
      (either_map (on_floor (quadrant tr s) b h.2.1 x p) (either_map (on_floor (quadrant bl s) c h.2.2 x p) (on_floor (quadrant br s) d h.2.3 x p))))
      v)

  floor_numbers : (t : Tree) (j : ℕ) → In (numbers (floor k g t)) j → In (numbers t) j
  floor_numbers none j h = h
  floor_numbers (box i m a b c d) j h =
      let within = by_quadrant _ (floor_numbers a) (floor_numbers b) (floor_numbers c) (floor_numbers d) in
      by_kept (λ u. In (numbers u) j → In (numbers (box i m a b c d)) j) (k.above m.grade g) _ (λ v. absurd v)
      (λ _. either_map (λ e. e) (four_in (quarter a b c d) (quarter (floor k g a) (floor k g b) (floor k g c) (floor k g d)) within j)) h

  floor_apart : (t : Tree) → Apart (numbers t) → Apart (numbers (floor k g t))
  floor_apart none h = tt
  floor_apart (box i m a b c d) h =
      let below = each_apart (quarter a b c d) h.1 in
      let floors = quarter (floor k g a) (floor k g b) (floor k g c) (floor k g d) in
      let within : (q : Quadrant) (j : ℕ) → In (floors q) j → In (quarter a b c d q) j =
      by_quadrant _ (floor_numbers a) (floor_numbers b) (floor_numbers c) (floor_numbers d) in
      let each : (q : Quadrant) → Apart (floors q) =
      by_quadrant _ (floor_apart a (below tl)) (floor_apart b (below tr)) (floor_apart c (below bl)) (floor_apart d (below br)) in
      by_kept (λ u. Apart (numbers u)) (k.above m.grade g) _ tt
      (λ _. (λ p. h.0 (four_in (quarter a b c d) floors within i p), four_under (quarter a b c d) floors within h.1 each))

pub floor_shows_lem : FloorShows
floor_shows_lem k L g s t h = (lawful_floor k L g s t h, floor_on k L g t, λ x v p. on_floor k L g s t h x p v, floor_apart k L g t)

-- moved

module _ (k : Kind) (down right : ℕ) where
  outranks_moved : (m n : Spot) → Outranks k m n → Outranks k (moved_spot down right m) (moved_spot down right n)
  unfolding Outranks
  outranks_moved m n (inl h) = inl h
  outranks_moved m n (inr (e, inl h)) = inr (e, inl (omega arith))
  outranks_moved m n (inr (e, inr h)) = inr (e, inr (omega arith))

  quadrant_moved : (q : Quadrant) (s : Square) → moved_square down right (quadrant q s) ≡ quadrant q (moved_square down right s)
  quadrant_moved tl s = refl
  quadrant_moved q s = grind arith

  hangs_moved : (s : Square) (m : Spot) (t : Tree) → Hangs k s m t → Hangs k (moved_square down right s) (moved_spot down right m) (moved down right t)
  hangs_moved s m none h = tt
  hangs_moved s m (box i x a b c d) h = (h.0, outranks_moved m x h.1)

  at_quadrant : (q : Quadrant) (s : Square) (t : Tree) → Ordered k (moved_square down right (quadrant q s)) t → Ordered k (quadrant q (moved_square down right s)) t
  at_quadrant q s t h = subst (λ (x : Square). Ordered k x t) (quadrant_moved q s) h

  lawful_moved : (s : Square) (t : Tree) → Ordered k s t → Ordered k (moved_square down right s) (moved down right t)
  lawful_moved s none h = tt
  lawful_moved s (box i m a b c d) h = (
    record {
      fair = h.0.fair;
      inside = let w = h.0.inside in record { not_above = omega arith; not_below = omega arith; not_left = omega arith; not_right = omega arith };
    },
    (hangs_moved s m a h.1.0, hangs_moved s m b h.1.1, hangs_moved s m c h.1.2, hangs_moved s m d h.1.3),
    (
      at_quadrant tl s _ (lawful_moved (quadrant tl s) a h.2.0),
      at_quadrant tr s _ (lawful_moved (quadrant tr s) b h.2.1),
      at_quadrant bl s _ (lawful_moved (quadrant bl s) c h.2.2),
      at_quadrant br s _ (lawful_moved (quadrant br s) d h.2.3),
    ),
  )

  shows_moved : (t : Tree) (x : Spot) → Shows t x → Shows (moved down right t) (moved_spot down right x)
  shows_moved none x h = h
  shows_moved (box i m a b c d) x h =
      either_map (ap (moved_spot down right)) (either_map (shows_moved a x) (either_map (shows_moved b x) (either_map (shows_moved c x) (shows_moved d x)))) h

  abbrev From : Tree → Spot → Type 0
  From t x = (y : Spot) × Shows t y × (x ≡ moved_spot down right y)

  from_moved : (t : Tree) (x : Spot) → Shows (moved down right t) x → From t x
  from_moved none x h = absurd h
  from_moved (box i m a b c d) x h =
      let each : (q : Quadrant) → Shows (pick (moved down right a) (moved down right b) (moved down right c) (moved down right d) q) x → From (pick a b c d q) x =
      by_quadrant _ (from_moved a x) (from_moved b x) (from_moved c x) (from_moved d x) in
      elim (split (moved down right a) (moved down right b) (moved down right c) (moved down right d) (moved_spot down right m) x i h) [
        | inl e ↦ (m, inl refl, e)
        | inr v ↦ let r = each v.0 v.1 in (r.0, below a b c d i m r.0 v.0 r.1, r.2)
      ]

  numbers_moved : (t : Tree) → numbers (moved down right t) ≡ numbers t
  numbers_moved none = refl
  numbers_moved (box i m a b c d) = cc (numbers_moved a, numbers_moved b, numbers_moved c, numbers_moved d)

pub shift_shows_lem : ShiftShows
shift_shows_lem k down right s t h =
    (lawful_moved k down right s t h, shows_moved k down right t, from_moved k down right t, numbers_moved k down right t)
