-- Parts of a tree: what they show, their numbers, and where they lie.
use Rattle.std.proofs.Common.{◌≡◌, ℕ, ◌⊎◌, sym, refl, ap, subst₂, inl, inr}
use Rattle.treap.specs.Spots.{Spot}
use Rattle.treap.specs.Trees.{Quadrant, tl, tr, bl, br, Square, quadrant, Tree, none, box, pick, Shows, numbers, In}
use Rattle.treap.specs.Draws.{Part, whole, deeper}
use Rattle.treap.specs.Searches.{Node, tree}
use Rattle.treap.proofs.Lists.{by_quadrant, in_four, quarter}
use Rattle.treap.proofs.Shown.{below, split}

pub part_of_part : {s : Square} {t : Tree} {r : Square} {u : Tree} {v : Square} {z : Tree} → Part s t r u → Part r u v z → Part s t v z
part_of_part p whole = p
part_of_part p (deeper g q) = deeper (part_of_part p g) q

abbrev pub Boxed : Tree → Type 0
Boxed none = ⊥
Boxed (box i m a b c d) = Unit {0}

pub no_part : {r : Square} {x : Square} {y : Tree} → Part r none x y → Boxed y → ⊥
no_part whole z = z
no_part (deeper a b) z = no_part a tt

pub part_shown : {s : Square} {t : Tree} {r : Square} {u : Tree} → Part s t r u → (x : Spot) → Shows u x → Shows t x
part_shown whole x h = h
part_shown (deeper {r = r} {i = i} {m = m} {a = a} {b = b} {c = c} {d = d} p q) x h = part_shown p x (below a b c d i m x q h)

-- the numbers of a part are numbers of the whole
pub part_numbers : {s : Square} {t : Tree} {r : Square} {u : Tree} → Part s t r u → (n : ℕ) → In (numbers u) n → In (numbers t) n
part_numbers whole n h = h
part_numbers (deeper {a = a} {b = b} {c = c} {d = d} p q) n h = part_numbers p n (inr (in_four (quarter a b c d) q n h))

-- a mark that is shown is the mark of a part
abbrev Marked : Square → Tree → Spot → Type 0
Marked s t x = (e : Node) × Part s t e.square (tree e) × (e.mark ≡ x)

pub shown_part : (s : Square) (t : Tree) (x : Spot) → Shows t x → Marked s t x
shown_part s none x h = absurd h
shown_part s (box i m a b c d) x h =
    let each : (q : Quadrant) → Shows (pick a b c d q) x → Marked (quadrant q s) (pick a b c d q) x =
    by_quadrant _ (shown_part (quadrant tl s) a x) (shown_part (quadrant tr s) b x) (shown_part (quadrant bl s) c x) (shown_part (quadrant br s) d x) in
    elim (split a b c d m x i h) [
      | inl e ↦ (record { square = s; number = i; mark = m; a = a; b = b; c = c; d = d }, whole, sym e)
      | inr v ↦ let r = each v.0 v.1 in (r.0, part_of_part (deeper whole v.0) r.1, r.2)
    ]

abbrev quadrant_of : Tree → Quadrant → Tree
quadrant_of none q = none
quadrant_of (box i m a b c d) q = pick a b c d q

-- a part is the whole, or lies in a quadrant
pub part_first : {s : Square} {i : ℕ} {m : Spot} {a b c d : Tree} {r : Square} {u : Tree} → Part s (box i m a b c d) r u → ((r ≡ s) × (u ≡ box i m a b c d)) ⊎ ((q : Quadrant) × Part (quadrant q s) (pick a b c d q) r u)
part_first whole = inl (refl, refl)
part_first {s} {i} {m} {a} {b} {c} {d} (deeper p q) =
    elim (part_first p) [
      | inl e ↦ inr (
        q,
        subst₂ (λ (v : Square) (y : Tree). Part (quadrant q s) (pick a b c d q) v y) (sym (ap (quadrant q) e.0))
            (sym (ap (λ (y : Tree). quadrant_of y q) e.1)) whole,
      )
      | inr e ↦ inr (e.0, deeper e.1 q)
    ]
