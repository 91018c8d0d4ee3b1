-- The two kinds of grade: points and monuments.
--
--   points       0 to 65,535; the larger stands above, the code is the number, a step is the difference
--   monument     a class, 1 to 5, and a year, 1700 to 2099; the lower class stands above, and in one class the later year
use Rattle.std.specs.Prelude.{ℕ, ◌+◌, ◌-◌, ◌*◌, ◌/◌, ◌%◌, Bool, cond, ◌&&◌, Some, None, ◌==◌, nat_le, nat_lt}
use Rattle.grade.specs.Kind.{Kind}

abbrev pub points : Kind
points = record {
  number = 1;
  is_code = λ a. nat_lt a 65536;
  above = λ a b. nat_le b a;
  step = λ p g. cond (nat_le g p) (Some (p - g)) None;
  back = λ p s. cond (nat_le s p) (Some (p - s)) None;
}

-- the class and the year may be those of a monument
abbrev pub monument_range : ℕ → ℕ → Bool
monument_range class year = (nat_le 1 class && nat_le class 5) && (nat_le 1700 year && nat_le year 2099)

-- the code of a class and a year
abbrev pub monument_code : ℕ → ℕ → ℕ
monument_code class year = class * 512 + (year - 1700)

-- the class and the year of a code
abbrev pub class_of : ℕ → ℕ
class_of a = a / 512

abbrev pub year_of : ℕ → ℕ
year_of a = 1700 + a % 512

abbrev pub monument_is : ℕ → Bool
monument_is a = monument_range (class_of a) (year_of a)

abbrev pub monument_above : ℕ → ℕ → Bool
monument_above a b =
    cond (class_of a == class_of b) (nat_le (year_of b) (year_of a)) (nat_lt (class_of a) (class_of b))

-- the code of the grade as many classes further on, of the year that the step has
abbrev pub monument_on : ℕ → ℕ → ℕ
monument_on p s = monument_code (class_of p + s / 512) (1700 + s % 512)

abbrev pub monument : Kind
monument = record {
  number = 2;
  is_code = monument_is;
  above = monument_above;
  step = λ p g. cond (monument_above p g) (Some ((class_of g - class_of p) * 512 + (year_of g - 1700))) None;
  back = λ p s. cond (monument_is (monument_on p s) && monument_above p (monument_on p s)) (Some (monument_on p s)) None;
}

-- how the number that holds a monument is read: its class, its year, and the code of these
abbrev pub read_class : ℕ → ℕ
read_class v = 1 + (v % 2000) / 400

abbrev pub read_year : ℕ → ℕ
read_year v = 1700 + v % 400

abbrev pub read_code : ℕ → ℕ
read_code v = monument_code (read_class v) (read_year v)
