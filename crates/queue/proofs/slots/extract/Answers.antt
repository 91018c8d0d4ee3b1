use Rattle.std.proofs.Common.{◌≡◌, ℕ, ◌-◌, ◌<◌, ◌≤◌, List, ◌∷◌, length, get_or, take, drop, set, sym, ◌∙◌, arith}
use Rattle.std.proofs.Math.Seq.{take-set-lt}
use Rattle.std.specs.List.Sorted.{IsPermutation}
use Rattle.std.proofs.lemmas.Grind.{common_steps}
use Rattle.std.proofs.lemmas.List.{length-take-le, get_or-take, get_or_read, take-take, take_at}
use Rattle.std.proofs.lemmas.List.Sorted.{IsPermutation-cons, IsPermutation-swap_remove, IsPermutation-trans}
use Rattle.queue.proofs.Moves.{top}
use Rattle.queue.proofs.slots.extract.Goals as goal

pub returns-clause-top : goal.returns-clause-top
returns-clause-top g c = λ k d b. grind (arith, common_steps, top g.met.E.Ranked.laws c.args.slots.now c.args.len k d)

-- the last of the first n takes the place of the first, which goes out
first_out : {E : Type 0} (xs : List E) (n : ℕ) (x y : E) → 0 < n → n ≤ length xs → x ≡ get_or xs 0 x → y ≡ get_or xs (n - 1) y →
    IsPermutation (take n xs) (x ∷ take (n - 1) (set xs 0 y))
first_out {E} xs n x y pos long first last =
    let head : x ≡ get_or (take n xs) 0 x = first ∙ sym (get_or-take n xs 0 x pos) in
    let tail : get_or (take n xs) (n - 1) x ≡ y = get_or-take n xs (n - 1) x (omega arith) ∙ sym (get_or_read xs (n - 1) y (omega arith) last x) in
    let out = IsPermutation-swap_remove {X = E} (take n xs) 0 x (omega (arith, length-take-le n xs long)) head in
    rw (length-take-le n xs long, tail, ← take-set-lt n xs 0 y pos, take-take (n - 1) n (set xs 0 y) (omega arith)) at out

pub returns-clause-held : goal.returns-clause-held
returns-clause-held g c =
    let xs = c.args.slots.now in
    let n = c.args.len in
    let x = c.index-slots-0.result in
    let y = c.index-slots-last.result in
    let long : length c.settle.new.heap ≡ n - 1 = grind (arith, common_steps) in
    let out = first_out xs n x y (omega arith) (omega arith) c.index-slots-0.is c.index-slots-last.is in
    rw (take_at c.settle.new.heap (drop (n - 1) (set xs 0 y)) (n - 1) long)
    (IsPermutation-trans _ _ _ out (IsPermutation-cons x _ _ c.settle.ensures.shuffled))
