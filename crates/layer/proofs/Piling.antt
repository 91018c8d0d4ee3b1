-- Layers laid one after another: how a pile's refusal and its sum go over to the layers that are left.
use Rattle.std.proofs.Common.{◌≡◌, ℕ, ◌+◌, ◌^◌, ◌<◌, ◌≤◌, List, [], ◌∷◌, length, get_or, drop, None, Option, sym, refl, ap, ◌∙◌, arith, pow_pos}
use Rattle.std.proofs.lemmas.List.{drop_more, drop_all}
use Rattle.grade.specs.Kind.{Kind, Laws}
use Rattle.treap.specs.Trees.{Square, none, Meaning, Lawful}
use Rattle.treap.specs.Layers.{moved_square, floored, shifted, shift_refusal}
use Rattle.treap.specs.Sums.{either}
use Rattle.treap.specs.Piles as piles
use Rattle.treap.proofs.Meanings.{shift_fits}
use Rattle.treap.proofs.Summed.{grows, one_floor_one_shift_lem}
use Rattle.layer.specs.declared.pile.Layer.{Layer}
use Rattle.layer.specs.declared.pile.Layer.TheVariants.{Shift}
use Rattle.layer.specs.Piles.{layers_of, sum_of}

-- a box tree of this square without a box
abbrev pub bare : Square → Meaning
bare s = record { square = s; ceiling = 0; tree = none }

module _ (k : Kind) where
  -- whether a pile is refused hangs on the square alone
  pub same_square : (p : List piles.Layer) (m n : Meaning) → m.square ≡ n.square → piles.pile_refusal k p m ≡ piles.pile_refusal k p n
  same_square [] m n e = refl
  same_square (piles.floor_at g ∷ p) m n e = same_square p (floored k g m) (floored k g n) e
  same_square (piles.shift_by r c ∷ p) m n e =
      let rest = same_square p (shifted r c m) (shifted r c n) (ap (moved_square r c) e) in
      let here : shift_refusal r c m ≡ shift_refusal r c n = ap (λ (s : Square). shift_refusal r c record { square = s; ceiling = m.ceiling; tree = m.tree }) e in
      λ z. either (here z) (rest z)

  -- one shift and one floor of the sum do for a pile that is not refused
  pub as_summed : Laws k
      → (p : List piles.Layer) (m : Meaning)
      → Lawful k m
      → piles.pile_refusal k p m ≡ None
      → (s : piles.Sum)
      → s ≡ piles.summed k p
      → (shift_refusal s.rows s.cols m ≡ None) × (piles.through k s m ≡ piles.piled k p m)
  as_summed L p m h o s e =
      let one = one_floor_one_shift_lem k L p m h in (
        ap (λ (t : piles.Sum). shift_refusal t.rows t.cols m) e ∙ sym one.1 ∙ o,
        ap (λ (t : piles.Sum). piles.through k t m) e ∙ sym one.0,
      )

  -- and what a part of the pile comes to is a shift on the grid
  pub sum_small : Laws k
      → (p : List piles.Layer) (m : Meaning)
      → Lawful k m
      → piles.pile_refusal k p m ≡ None
      → (s : piles.Sum) (left : List piles.Layer)
      → piles.summed_from k s left ≡ piles.summed k p
      → (s.rows ≤ 65535) × (s.cols ≤ 65535)
  sum_small L p m h o s left e =
      let f = shift_fits _ _ m (as_summed L p m h o (piles.summed_from k s left) e).0 in
      let u = grows k s left in
      let v : 0 < 2 ^ m.square.level = pow_pos m.square.level in
      (omega (arith, f.0, u.0), omega (arith, f.1, u.1))

module _ {G : Type 0} (k : Kind) (code : G → ℕ) (layers : List (Layer G)) (m : Meaning) (laws : Laws k) (h : Lawful k m) (o : piles.pile_refusal k (layers_of code layers) m ≡ None) (i : ℕ) (least : Option G) (rows cols : ℕ) (e : piles.summed_from k (sum_of code least rows cols) (layers_of code (drop i layers)) ≡ piles.summed k (layers_of code layers)) where
  -- the next shift does not bring the sum past the grid
  pub next_small : (y : Layer G) → i < length layers → y ≡ get_or layers i y → (r c : ℕ) → y ≡ Shift r c → (rows + r ≤ 65535) × (cols + c ≤ 65535)
  next_small y low read r c z =
      let next : drop i layers ≡ Shift r c ∷ drop (i + 1) layers = drop_more layers i y low ∙ ap (λ v. v ∷ drop (i + 1) layers) (sym read ∙ z) in
      sum_small k laws (layers_of code layers) m h o (sum_of code least (rows + r) (cols + c)) (layers_of code (drop (i + 1) layers)) (rw next at e)

  -- and when no layer is left, one floor and one shift do
  pub laid : length layers ≤ i → (shift_refusal rows cols m ≡ None) × (piles.through k (sum_of code least rows cols) m ≡ piles.piled k (layers_of code layers) m)
  laid le = as_summed k laws (layers_of code layers) m h o (sum_of code least rows cols) (rw (drop_all i layers le) at e)
