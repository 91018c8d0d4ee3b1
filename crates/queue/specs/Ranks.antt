-- Rankings: which of two entries comes first. Two entries of which neither outranks the other are level; they may still
-- differ.
--
--   Ranking over       what holds of every test `over` that says whether one entry outranks another
--   Top over e xs      none of xs outranks e
--   on key over        the test of the entries' keys
--   lex first second   the first test, and the second where the first leaves two entries level
use Rattle.std.specs.Prelude.{◌≡◌, Bool, true, false, cond, List, All}

-- of two entries at most one outranks the other; and if x does not outrank y, nor y z, then x does not outrank z
pub record Ranking {E : Type 0} (over : E → E → Bool) : Type 0 where
  pub one_way : (x y : E) → over x y ≡ true → over y x ≡ false
  pub chain : (x y z : E) → over x y ≡ false → over y z ≡ false → over x z ≡ false

abbrev pub Top : {E : Type 0} → (E → E → Bool) → E → List E → Type 0
Top over e xs = All (λ x. over x e ≡ false) xs

abbrev pub on : {K E : Type 0} → (E → K) → (K → K → Bool) → E → E → Bool
on key over x y = over (key x) (key y)

abbrev pub lex : {E : Type 0} → (E → E → Bool) → (E → E → Bool) → E → E → Bool
lex first second x y = cond (first x y) true (cond (first y x) false (second x y))
