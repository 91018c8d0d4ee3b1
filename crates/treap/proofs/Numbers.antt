-- Box numbers of a tree: a number that no two boxes have stands once in the list of them.
use Rattle.std.proofs.Common.{◌≡◌, ℕ, ◌+◌, ◌≤◌, eqb, List, [], ◌∷◌, ◌++◌, refl, inl, inr, arith}
use Rattle.treap.specs.Trees.{Tree, none, box, numbers, In, Apart}
use Rattle.treap.specs.Sums.{one_if, held}
use Rattle.treap.proofs.Counts.{one_is}

-- how often a number stands in a list
abbrev times : ℕ → List ℕ → ℕ
times n [] = 0
times n (x ∷ l) = one_if (eqb n x) + times n l

times_append : (n : ℕ) (l r : List ℕ) → times n (l ++ r) ≡ times n l + times n r
times_append n [] r = omega arith
times_append n (x ∷ l) r = omega (arith, times_append n l r)

times_numbers : (n : ℕ) (t : Tree) → times n (numbers t) ≡ held n t
times_numbers n none = refl
times_numbers n (box i m a b c d) =
    simp times_append (omega (arith, times_numbers n a, times_numbers n b, times_numbers n c, times_numbers n d))

in_times : (n : ℕ) (l : List ℕ) → In l n → 1 ≤ times n l
in_times n [] h = absurd h
in_times n (x ∷ l) (inl e) = omega (arith, one_is n x e)
in_times n (x ∷ l) (inr h) = omega (arith, in_times n l h)

once_apart : (l : List ℕ) → ((n : ℕ) → times n l ≤ 1) → Apart l
once_apart [] h = tt
once_apart (x ∷ l) h =
    (λ g. omega (arith, h x, one_is x x refl, in_times x l g), once_apart l (λ n. omega (arith, h n)))

pub single_apart : (t : Tree) → ((n : ℕ) → held n t ≤ 1) → Apart (numbers t)
single_apart t h = once_apart (numbers t) (λ n. omega (arith, times_numbers n t, h n))
