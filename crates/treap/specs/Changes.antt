-- How a box tree changes as a mark is entered, struck, or a box gets another number.
--
--   Ranked k m x up down   up and down are m and x, the one that outranks the other first, and x first if neither does
--   More m n t u           u holds what t holds, and besides the mark m and the box number n
--   Gains k s m n t u      u is ordered in the square s, with m and n more than t
--   Loses k s m n t u      u is ordered in the square s, with m and n less than t
--   Renumbers k s i j t u  u is ordered in the square s, with the marks of t, and the number j in place of i
use Rattle.std.specs.Prelude.{◌≡◌, ℕ, ◌+◌, ◌⊎◌}
use Rattle.grade.specs.Kind.{Kind}
use Rattle.treap.specs.Spots.{Spot, Outranks}
use Rattle.treap.specs.Trees.{Square, Tree, Ordered}
use Rattle.treap.specs.Sums.{mark_sum, number_sum}

abbrev pub Ranked : Kind → Spot → Spot → Spot → Spot → Type 0
Ranked k m x up down =
    ((up ≡ m) × (down ≡ x) × Outranks k m x) ⊎ ((up ≡ x) × (down ≡ m) × (Outranks k m x → ⊥))

pub record More (m : Spot) (n : ℕ) (t u : Tree) : Type 0 where
  pub marks : (f : Spot → ℕ) → mark_sum f u ≡ f m + mark_sum f t
  pub numbers : (f : ℕ → ℕ) → number_sum f u ≡ f n + number_sum f t

pub record Gains (k : Kind) (s : Square) (m : Spot) (n : ℕ) (t u : Tree) : Type 0 where
  pub ordered : Ordered k s u
  pub more : More m n t u

pub record Loses (k : Kind) (s : Square) (m : Spot) (n : ℕ) (t u : Tree) : Type 0 where
  pub ordered : Ordered k s u
  pub less : More m n u t

pub record Renumbers (k : Kind) (s : Square) (i j : ℕ) (t u : Tree) : Type 0 where
  pub ordered : Ordered k s u
  pub marks : (f : Spot → ℕ) → mark_sum f u ≡ mark_sum f t
  pub numbers : (f : ℕ → ℕ) → number_sum f u + f i ≡ number_sum f t + f j
