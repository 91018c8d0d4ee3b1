-- The laws of monuments.
use Rattle.std.specs.Prelude.{◌≡◌, ℕ, ◌+◌, ◌-◌, ◌*◌, ◌/◌, ◌%◌, ◌<◌, ◌≤◌, true, cond, ◌&&◌, Some, None}
use Rattle.std.proofs.Common.{sym, subst, lit≤, arith}
use Rattle.std.proofs.lemmas.Bool.Decides.{nat_tests}
use Rattle.grade.specs.Kind.{Laws}
use Rattle.grade.specs.Kinds.{monument, monument_on}

range : (a : ℕ) → monument.is_code a ≡ true → (1 ≤ a / 512) × (a / 512 ≤ 5) × (a % 512 ≤ 399)
range a h = (grind (arith, nat_tests), grind (arith, nat_tests), grind (arith, nat_tests))

step_is : (p g s : ℕ) → monument.step p g ≡ Some s → s ≡ (g / 512 - p / 512) * 512 + g % 512
step_is p g s e = grind (arith, nat_tests)

short : (p g s : ℕ) → monument.is_code p ≡ true → monument.is_code g ≡ true → monument.step p g ≡ Some s → s < 65536
short p g s h l e = let r = range g l in let z = step_is p g s e in omega arith

step_above : (p g s : ℕ) → monument.step p g ≡ Some s → (monument.above p g ≡ true) × (p / 512 ≤ g / 512)
step_above p g s e = (grind (arith, nat_tests), grind (arith, nat_tests))

on_is : (p g s : ℕ) → monument.is_code g ≡ true → monument.step p g ≡ Some s → monument_on p s ≡ g
on_is p g s l e = let r = range g l in let z = step_is p g s e in let a = (step_above p g s e).1 in omega arith

undone : (p g s : ℕ) → monument.is_code p ≡ true → monument.is_code g ≡ true → monument.step p g ≡ Some s → monument.back p s ≡ Some g
undone p g s h l e =
    let a = (step_above p g s e).0 in
    let family : ℕ → Type 0 = λ o. cond (monument.is_code o && monument.above p o) (Some o) None ≡ Some g in
    subst family (sym (on_is p g s l e)) (rw (l, a))

pub monument_laws : Laws monument
monument_laws = record {
  numbered = (lit≤ tt, lit≤ tt);
  small = λ a h. grind (arith, nat_tests);
  total = λ a b. grind (arith, nat_tests);
  anti = λ a b h l. grind (arith, nat_tests);
  trans = λ a b c h l. grind (arith, nat_tests);
  steps = λ p g. grind (arith, nat_tests);
  short = short;
  undone = undone;
  undoes = λ p g s h e. (grind (arith, nat_tests), grind (arith, nat_tests));
}
