-- How a change in one quadrant makes the change of the whole tree: entering, striking and renumbering go down one quadrant
-- at a time.
use Rattle.std.proofs.Common.{◌≡◌, ℕ, ◌+◌, ◌<◌, ◌⊎◌, sym, refl, ap, subst, inl, inr, arith}
use native.Mathlib.Decide.{dec_lt}
use Rattle.grade.specs.Kind.{Kind, Laws}
use Rattle.treap.specs.Spots.{Spot, Outranks}
use Rattle.treap.specs.Trees.{Quadrant, index, Square, Within, quadrant, Tree, none, box, pick, Shows, Holds, Hangs, Ordered}
use Rattle.treap.specs.Sums.{one_if, at_cell, in_cell, Alone}
use Rattle.treap.specs.Changes.{Gains, Loses, Renumbers, Ranked}
use Rattle.treap.proofs.Ranks.{trans, tri}
use Rattle.treap.proofs.Shown.{hangs, lawful_quadrant, root_over, shown_holds, one_quadrant, below, split}
use Rattle.treap.proofs.Counts.{is_at_cell, shows_has, has_shows, same}
use Rattle.treap.proofs.Hanging.{hung, hung_numbers, hung_marks, pick_marks, hung_ordered, hang, has_quadrants, one_cell, shows_more, shows_kept, gone_is_gone}

-- all that an ordered tree shows but its root's mark is outranked by that
pub root_or_below : (k : Kind) → Laws k → (s : Square) (i : ℕ) (m : Spot) (a b c d : Tree) → Ordered k s (box i m a b c d) → (x : Spot) → Shows (box i m a b c d) x → (x ≡ m) ⊎ Outranks k m x
root_or_below k L s i m a b c d h x g =
    elim (split a b c d m x i g) [ inl e ↦ inl e | inr v ↦ inr (root_over k L s i m a b c d h v.0 x v.1) ]

module _ (k : Kind) (L : Laws k) (s : Square) (n : ℕ) (x : Spot) (a b c d : Tree) (h : Ordered k s (box n x a b c d)) where
  abbrev t : Tree
  t = box n x a b c d

  -- the box with another tree in quadrant q is ordered, if its mark outranks what that tree shows
  rehung : (q : Quadrant) (u : Tree) → 0 < s.level → ((y : Spot) → Shows u y → Outranks k x y) → Ordered k (quadrant q s) u → Ordered k s (hung n x a b c d q u)
  rehung q u pos over ou =
      hung_ordered k s n x a b c d q u h.0 (λ p e. hangs k s n x a b c d h p) (lawful_quadrant k s n x a b c d h) (hang k s x u pos over) ou

  -- a mark other than the root's is shown in the quadrant in which it lies
  pub shows_in_quadrant : (m : Spot) → Shows t m → (m ≡ x → ⊥) → (q : Quadrant) → Within (quadrant q s) m.row m.col → Shows (pick a b c d q) m
  shows_in_quadrant m g ne q w =
      elim (split a b c d x m n g) [
        | inl e ↦ absurd (ne e)
        | inr v ↦ subst (λ (p : Quadrant). Shows (pick a b c d p) m)
            (one_quadrant s v.0 q m.row m.col (shown_holds k (quadrant v.0 s) (pick a b c d v.0) (lawful_quadrant k s n x a b c d h v.0) m v.1).inside w) v.1
      ]

  pub level_above : (m : Spot) → Shows t m → (m ≡ x → ⊥) → 0 < s.level
  level_above m g ne =
      elim (split a b c d x m n g) [ inl e ↦ absurd (ne e) | inr v ↦ has_quadrants k s x (pick a b c d v.0) m (hangs k s n x a b c d h v.0) v.1 ]

  -- striking a mark below the root
  pub cut_below : (m : Spot) (g : ℕ) (q : Quadrant) (u : Tree) → Shows (pick a b c d q) m → Loses k (quadrant q s) m g (pick a b c d q) u → Loses k s m g t (hung n x a b c d q u)
  cut_below m g q u shown l =
      record {
        ordered =
            rehung q u (has_quadrants k s x (pick a b c d q) m (hangs k s n x a b c d h q) shown)
            (λ y v. root_over k L s n x a b c d h q y (shows_kept m g u (pick a b c d q) l.less y v)) l.ordered;
        less =
            record {
              marks = λ f. omega (arith, hung_marks f n x x a b c d q u, l.less.marks f);
              numbers = λ f. omega (arith, hung_numbers f n x x a b c d q u, l.less.numbers f);
            };
      }

  -- a box below the root gets another number
  pub renumber_below : (i j : ℕ) (q : Quadrant) (u : Tree) → 0 < s.level → Renumbers k (quadrant q s) i j (pick a b c d q) u → Renumbers k s i j t (hung n x a b c d q u)
  renumber_below i j q u pos r =
      record {
        ordered = rehung q u pos (λ y v. root_over k L s n x a b c d h q y (shown y v)) r.ordered;
        marks = λ f. omega (arith, hung_marks f n x x a b c d q u, r.marks f);
        numbers = λ f. omega (arith, hung_numbers f n x x a b c d q u, r.numbers f);
      }
    where
      shown : (y : Spot) → Shows u y → Shows (pick a b c d q) y
      shown y v = has_shows y (pick a b c d q) (omega (arith, shows_has y u v, r.marks (λ z. one_if (same y z))))

  -- striking the root's mark: the best of the marks right below takes its place
  pub pull_up : (w : Spot) (g : ℕ) (q : Quadrant) (u : Tree)
      → Alone t
      → 0 < s.level
      → Shows (pick a b c d q) w
      → ((y : Spot) → Shows (pick a b c d q) y → (y ≡ w) ⊎ Outranks k w y)
      → ((p : Quadrant) → (index p ≡ index q → ⊥) → Hangs k s w (pick a b c d p))
      → Loses k (quadrant q s) w g (pick a b c d q) u
      → Loses k s x g t (hung n w a b c d q u)
  pull_up w g q u alone pos shown best others l =
      record {
        ordered =
            hung_ordered k s n w a b c d q u (shown_holds k s t h w (below a b c d n x w q shown)) others (lawful_quadrant k s n x a b c d h)
            (hang k s w u pos (λ y v. over y v (best y (shows_kept w g u (pick a b c d q) l.less y v)))) l.ordered;
        less =
            record {
              marks = λ f. omega (arith, hung_marks f n x w a b c d q u, l.less.marks f);
              numbers = λ f. omega (arith, hung_numbers f n x w a b c d q u, l.less.numbers f);
            };
      }
    where
      alone_below : Alone (pick a b c d q)
      alone_below row col = omega (arith, alone row col, pick_marks (λ y. one_if (at_cell row col y)) n x a b c d q)

      over : (y : Spot) → Shows u y → (y ≡ w) ⊎ Outranks k w y → Outranks k w y
      over y v (inl e) = absurd (gone_is_gone w g (pick a b c d q) u l.less alone_below (subst (λ (z : Spot). Shows u z) e v))
      over y v (inr o) = o

  -- entering a mark: the better of it and the root's mark stays, the other goes on into its quadrant
  module _ (m : Spot) (hm : Holds k s m) (alone : Alone t) (free : in_cell m.row m.col t ≡ 0) where
    other_cell : (m.row ≡ x.row) × (m.col ≡ x.col) → ⊥
    other_cell e = omega (arith, free, ap one_if (is_at_cell m.row m.col x e.0 e.1))

    other_mark : m ≡ x → ⊥
    other_mark e = other_cell (ap (λ (z : Spot). z.row) e, ap (λ (z : Spot). z.col) e)

    pub room_below : 0 < s.level
    room_below =
        elim (dec_lt 0 s.level) [ yes p ↦ p | no p ↦ absurd (other_cell (one_cell s m.row m.col x.row x.col hm.inside h.0.inside (omega arith))) ]

    -- what holds of the two marks, the better first
    record Sorted (up down : Spot) : Type 0 where
      over : Outranks k up down
      least : (y : Spot) → Outranks k x y → Outranks k up y
      up_holds : Holds k s up
      down_holds : Holds k s down
      both : (f : Spot → ℕ) → f up + f down ≡ f m + f x
      down_free : (q : Quadrant) → in_cell down.row down.col (pick a b c d q) ≡ 0

    m_first : Outranks k m x → Sorted m x
    m_first o =
        record {
          over = o;
          least = λ y v. trans k L m x y o v;
          up_holds = hm;
          down_holds = h.0;
          both = λ f. refl;
          down_free = λ q. omega (arith, alone x.row x.col, pick_marks (λ y. one_if (at_cell x.row x.col y)) n x a b c d q, ap one_if (is_at_cell x.row x.col x refl refl));
        }

    x_first : (Outranks k m x → ⊥) → Sorted x m
    x_first not-m =
        record {
          over = elim (tri k L m x) [ inl o ↦ absurd (not-m o) | inr (inl e) ↦ absurd (other_mark e) | inr (inr o) ↦ o ];
          least = λ y v. v;
          up_holds = h.0;
          down_holds = hm;
          both = λ f. omega arith;
          down_free = λ q. omega (arith, free, pick_marks (λ y. one_if (at_cell m.row m.col y)) n x a b c d q);
        }

    sorted : (up down : Spot) → Ranked k m x up down → Sorted up down
    sorted up down (inl r) = rw (r.0, r.1) (m_first r.2)
    sorted up down (inr r) = rw (r.0, r.1) (x_first r.2)

    module _ (up down : Spot) (r : Ranked k m x up down) where
      pub down_inside : Holds k s down
      down_inside = (sorted up down r).down_holds

      pub free_below : (q : Quadrant) → in_cell down.row down.col (pick a b c d q) ≡ 0
      free_below q = (sorted up down r).down_free q

      pub sink_below : (fresh : ℕ) (q : Quadrant) (u : Tree) → Gains k (quadrant q s) down fresh (pick a b c d q) u → Gains k s m fresh t (hung n up a b c d q u)
      sink_below fresh q u g =
          record {
            ordered =
                hung_ordered k s n up a b c d q u f.up_holds
                (λ p e. hang k s up (pick a b c d p) room_below (λ y v. f.least y (root_over k L s n x a b c d h p y v)))
                (lawful_quadrant k s n x a b c d h)
                (hang k s up u room_below (λ y v. above y (shows_more down fresh (pick a b c d q) u g.more y v))) g.ordered;
            more =
                record {
                  marks = λ v. omega (arith, hung_marks v n x up a b c d q u, g.more.marks v, f.both v);
                  numbers = λ v. omega (arith, hung_numbers v n x up a b c d q u, g.more.numbers v);
                };
          }
        where
          f : Sorted up down
          f = sorted up down r

          above : (y : Spot) → (y ≡ down) ⊎ Shows (pick a b c d q) y → Outranks k up y
          above y (inl e) = subst (λ (z : Spot). Outranks k up z) (sym e) f.over
          above y (inr v) = f.least y (root_over k L s n x a b c d h q y v)

-- a first mark
pub sink_first : (k : Kind) (s : Square) (m : Spot) (fresh : ℕ) → Holds k s m → Gains k s m fresh none (box fresh m none none none none)
sink_first k s m fresh hm =
    record {
      ordered = (hm, (tt, tt, tt, tt), (tt, tt, tt, tt));
      more = record { marks = λ f. omega arith; numbers = λ f. omega arith };
    }

-- a last mark
pub pull_last : (k : Kind) (s : Square) (m : Spot) (n : ℕ) → Loses k s m n (box n m none none none none) none
pull_last k s m n = record { ordered = tt; less = record { marks = λ f. omega arith; numbers = λ f. omega arith } }
