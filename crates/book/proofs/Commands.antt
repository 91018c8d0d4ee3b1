-- A line says one command at most, since a command is known from its letter and its numbers.
use Rattle.std.proofs.Common.{◌≡◌, ℕ, ◌<◌, ◌≤◌, cond, eqb, List, [], ◌∷◌, get_or, refl, subst, arith}
use Rattle.book.specs.Grammar.{Fields, letter, numbers, Allowed, Says, OneCommand}
use Rattle.book.specs.declared.command.Command.{Command}
use Rattle.book.specs.declared.command.Command.TheVariants.{New, Enter, Regrade, Strike, Look, Draw}
use Rattle.book.proofs.Fields.{fields_once}

abbrev command_of : ℕ → List ℕ → Command
command_of b ns =
    cond (eqb b 78) (New (get_or ns 0 0))
    (cond (eqb b 69) (Enter (get_or ns 0 0) (get_or ns 1 0) (get_or ns 2 0))
    (cond (eqb b 71) (Regrade (get_or ns 0 0) (get_or ns 1 0) (get_or ns 2 0))
    (cond (eqb b 83) (Strike (get_or ns 0 0) (get_or ns 1 0))
    (cond (eqb b 76) (Look (get_or ns 0 0) (get_or ns 1 0))
    (Draw (get_or ns 0 0) (get_or ns 1 0) (get_or ns 2 0) (get_or ns 3 0) (get_or ns 4 0))))))

known : (c : Command) → command_of (letter c) (numbers c) ≡ c
known (New h) = refl
known (Enter row col grade) = refl
known (Regrade row col grade) = refl
known (Strike row col) = refl
known (Look row col) = refl
known (Draw top left bottom right k) = refl

pub one_command : OneCommand
one_command [] c d h k = absurd h
one_command (b ∷ rest) c d h k =
    let e = fields_once rest (numbers c) (numbers d) h.1 k.1 in
    let p = known c in let q = known d in cc (h.0, k.0, e)

-- a draw of more than 256 marks is no command, and its line says no other
pub too_many : (b : ℕ) (rest : List ℕ) (top left bottom right k : ℕ) → b ≡ 68 → Fields rest (top ∷ (left ∷ (bottom ∷ (right ∷ (k ∷ []))))) → 256 < k → (c : Command) → Says (b ∷ rest) c → ⊥
too_many b rest top left bottom right k e f h c s =
    let n = fields_once rest (numbers c) (top ∷ (left ∷ (bottom ∷ (right ∷ (k ∷ []))))) s.1 f in
    let p = known c in
    let q : c ≡ Draw top left bottom right k = cc (p, n, e, s.0) in
    let m : k ≤ 256 = subst Allowed q s.2 in omega arith
