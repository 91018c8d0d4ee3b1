-- A grade kind, by the codes of its grades: a grade is its code. A kind says which numbers are codes, which grade stands
-- above or level with which, and what the steps between grades are; every kind keeps the laws.
--
--   number       the number of the kind
--   is_code a    a is the code of a grade of the kind
--   above a b    a stands above or level with b
--   step p g     the step from p down to g, or none
--   back p s     the grade to which the step s leads from p, or none
use Rattle.std.specs.Prelude.{◌≡◌, ℕ, ◌<◌, ◌≤◌, Bool, true, cond, ◌⊎◌, is_some, Some, None, Option}

pub record Kind : Type 0 where
  pub number : ℕ
  pub is_code : ℕ → Bool
  pub above : ℕ → ℕ → Bool
  pub step : ℕ → ℕ → Option ℕ
  pub back : ℕ → ℕ → Option ℕ

-- The laws of a kind.
--
--   numbered     the number of the kind is 1 to 255
--   small        a code fits 16 bits
--   total        of two grades one stands above or level with the other
--   anti         both ways only for equal grades
--   trans        the order is transitive
--   steps        there is a step exactly where the first stands above or level with the second
--   short        a step fits 16 bits
--   undone       going back by the step from p to g gives g
--   undoes       going back gives only a grade to which the step is that one
pub record Laws (k : Kind) : Type 0 where
  pub numbered : (1 ≤ k.number) × (k.number ≤ 255)
  pub small : (a : ℕ) → k.is_code a ≡ true → a < 65536
  pub total : (a b : ℕ) → (k.above a b ≡ true) ⊎ (k.above b a ≡ true)
  pub anti : (a b : ℕ) → k.above a b ≡ true → k.above b a ≡ true → a ≡ b
  pub trans : (a b c : ℕ) → k.above a b ≡ true → k.above b c ≡ true → k.above a c ≡ true
  pub steps : (p g : ℕ) → is_some (k.step p g) ≡ k.above p g
  pub short : (p g s : ℕ) → k.is_code p ≡ true → k.is_code g ≡ true → k.step p g ≡ Some s → s < 65536
  pub undone : (p g s : ℕ) → k.is_code p ≡ true → k.is_code g ≡ true → k.step p g ≡ Some s → k.back p s ≡ Some g
  pub undoes : (p g s : ℕ) → k.is_code p ≡ true → k.back p s ≡ Some g → (k.is_code g ≡ true) × (k.step p g ≡ Some s)

-- the code of a grade that may be absent
abbrev pub codes : {G : Type 0} → (G → ℕ) → Option G → Option ℕ
codes code None = None
codes code (Some g) = Some (code g)

-- the number, where it is a code of the kind
abbrev pub checked : Kind → ℕ → Option ℕ
checked k a = cond (k.is_code a) (Some a) None
