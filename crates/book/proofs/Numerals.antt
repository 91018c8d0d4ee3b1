-- Digits at the front of a text stop at one place only.
use Rattle.std.proofs.Common.{◌≡◌, ℕ, List, [], ◌∷◌, ◌++◌, sym, refl, subst, All}
use Rattle.std.proofs.lemmas.List.Elements.{All-head, All-tail}
use Rattle.book.specs.Grammar.{Digit, NoDigit}

pub digits_once : (ds es r s : List ℕ) → All Digit ds → All Digit es → NoDigit r → NoDigit s → ds ++ r ≡ es ++ s → (ds ≡ es) × (r ≡ s)
digits_once [] [] r s h k n m e = (refl, e)
digits_once [] (b ∷ es) r s h k n m e = absurd (subst NoDigit e n (All-head Digit b es k))
digits_once (d ∷ ds) [] r s h k n m e = absurd (subst NoDigit (sym e) m (All-head Digit d ds h))
digits_once (d ∷ ds) (b ∷ es) r s h k n m e =
    let t : ds ++ r ≡ es ++ s = cc in
    let p = digits_once ds es r s (All-tail Digit d ds h) (All-tail Digit b es k) n m t in (cc (p.0, e), p.1)
