-- Two meanings with the same marks have the same marks through every pile, so draws of them agree.
use Rattle.std.proofs.Common.{◌≡◌, ℕ, List, [], ◌∷◌, sym, ap, subst}
use Rattle.grade.specs.Kind.{Kind, Laws}
use Rattle.treap.specs.Spots.{Spot}
use Rattle.treap.specs.Trees.{Square, numbers, Shows, Ordered, Apart, Meaning}
use Rattle.treap.specs.Draws.{Draws}
use Rattle.treap.specs.Layers.{moved_square, moved}
use Rattle.treap.specs.Piles.{Layer, floor_at, shift_by, lay, piled, SameDraw}
use Rattle.treap.proofs.Counted.{one_draw_lem}
use Rattle.treap.proofs.Layers.{floor_shows_lem, shift_shows_lem}

-- in ordered trees, numbers apart
abbrev Sound : Kind → Meaning → Type 0
Sound k m = Ordered k m.square m.tree × Apart (numbers m.tree)

module _ (k : Kind) (L : Laws k) where
  lay_sound : (y : Layer) (m : Meaning) → Sound k m → Sound k (lay k y m)
  lay_sound (floor_at g) m h = let f = floor_shows_lem k L g m.square m.tree h.0 in (f.0, f.3 h.1)
  lay_sound (shift_by rows cols) m h =
      let f = shift_shows_lem k rows cols m.square m.tree h.0 in (f.0, subst (λ (l : List ℕ). Apart l) (sym f.3) h.1)

  -- a layer over more marks shows more marks
  lay_into : (y : Layer) (m n : Meaning) → Sound k m → Sound k n → ((x : Spot) → Shows m.tree x → Shows n.tree x) → (x : Spot) → Shows (lay k y m).tree x → Shows (lay k y n).tree x
  lay_into (floor_at g) m n hm hn to x v =
      let r = (floor_shows_lem k L g m.square m.tree hm.0).1 x v in
      (floor_shows_lem k L g n.square n.tree hn.0).2 x (to x r.0) r.1
  lay_into (shift_by rows cols) m n hm hn to x v =
      let r = (shift_shows_lem k rows cols m.square m.tree hm.0).2 x v in
      subst (λ (z : Spot). Shows (moved rows cols n.tree) z) (sym r.2) ((shift_shows_lem k rows cols n.square n.tree hn.0).1 r.0 (to r.0 r.1))

  lay_square : (y : Layer) (m n : Meaning) → m.square ≡ n.square → (lay k y m).square ≡ (lay k y n).square
  lay_square (floor_at g) m n e = e
  lay_square (shift_by rows cols) m n e = ap (moved_square rows cols) e

pub same_draw_lem : SameDraw
same_draw_lem k L m n hm hn e to fro p w asked pos l r o q = go p m n (hm.ordered, hm.apart) (hn.ordered, hn.apart) e to fro
  where
    go : (p : List Layer) (m n : Meaning)
        → Sound k m
        → Sound k n
        → m.square ≡ n.square
        → ((x : Spot) → Shows m.tree x → Shows n.tree x)
        → ((x : Spot) → Shows n.tree x → Shows m.tree x)
        → Draws k (piled k p m).square (piled k p m).tree w asked l o
        → Draws k (piled k p n).square (piled k p n).tree w asked r q
        → (l ≡ r) × (o ≡ q)
    go [] m n hm hn e to fro dm dn =
        one_draw_lem k L m.square m.tree n.tree hm.0 (subst (λ (s : Square). Ordered k s n.tree) (sym e) hn.0) hm.1 hn.1 to fro w asked pos l r o q dm
        (subst (λ (s : Square). Draws k s n.tree w asked r q) (sym e) dn)
    go (y ∷ p) m n hm hn e to fro dm dn =
        go p (lay k y m) (lay k y n) (lay_sound k L y m hm) (lay_sound k L y n hn) (lay_square k L y m n e) (lay_into k L y m n hm hn to) (lay_into k L y n m hn hm fro) dm dn
