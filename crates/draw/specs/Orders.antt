-- The test whether one mark outranks another is a ranking.
use Rattle.std.specs.Prelude.{◌≡◌, Bool, true, false, ◌⊎◌, Decides, refl}
use Rattle.std.proofs.Common.{sym, ◌∙◌, subst, inl, inr}
use Rattle.std.proofs.lemmas.Bool.{false≢true}
use Rattle.queue.specs.Ranks.{Ranking}
use Rattle.grade.specs.Kind.{Kind, Laws}
use Rattle.treap.specs.Spots.{Spot, Outranks}
use Rattle.treap.specs.Plants.{outranks}
use Rattle.treap.proofs.Ranks.{trans, asym, tri, decides_outranks}

-- two tests of one fact agree
agree : {P : Type 0} (a b : Bool) → Decides a P → Decides b P → a ≡ b
agree true b d e = sym (e.1 (d.0 refl))
agree false true d e = absurd (false≢true (d.1 (e.0 refl)))
agree false false d e = refl

module _ (k : Kind) where
  pub told : (m n : Spot) (b : Bool) → Decides b (Outranks k m n) → b ≡ outranks k m n
  told m n b d = agree b (outranks k m n) d (decides_outranks k m n)

  pub passes : (m n : Spot) → Outranks k m n → outranks k m n ≡ true
  passes m n h = (decides_outranks k m n).1 h

  refuses : (m n : Spot) → (Outranks k m n → ⊥) → outranks k m n ≡ false
  refuses m n h = go (outranks k m n) refl
    where
      go : (b : Bool) → outranks k m n ≡ b → outranks k m n ≡ false
      go true e = absurd (h ((decides_outranks k m n).0 e))
      go false e = e

  refused : (m n : Spot) → outranks k m n ≡ false → Outranks k m n → ⊥
  refused m n e h = false≢true (sym e ∙ passes m n h)

  pub ranking_spots : Laws k → Ranking (outranks k)
  ranking_spots L = record {
    one_way = λ m n h. refuses n m (asym k L m n ((decides_outranks k m n).0 h));
    chain = λ m n o h g. refuses m o (λ over. past m n o h g over (tri k L m n));
  }
    where
      past : (m n o : Spot)
          → outranks k m n ≡ false
          → outranks k n o ≡ false
          → Outranks k m o
          → Outranks k m n ⊎ (m ≡ n) ⊎ Outranks k n m
          → ⊥
      past m n o h g over (inl v) = refused m n h v
      past m n o h g over (inr (inl e)) = refused n o g (subst (λ (x : Spot). Outranks k x o) e over)
      past m n o h g over (inr (inr v)) = refused n o g (trans k L n m o v over)
