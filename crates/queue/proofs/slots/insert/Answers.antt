use Rattle.std.proofs.Common.{◌≡◌, ◌+◌, length, take, drop, set, sym, ◌∙◌, arith}
use Rattle.std.proofs.lemmas.Grind.{common_steps}
use Rattle.std.proofs.lemmas.List.{take_more_set, take_at, drop-drop, drop-set-lt}
use Rattle.std.proofs.lemmas.List.Sorted.{IsPermutation-sym, IsPermutation-trans, IsPermutation-to_front}
use Rattle.std.proofs.lemmas.Slice.{drop-append-drop}
use Rattle.queue.proofs.slots.insert.Goals as goal

pub returns-clause-held : goal.returns-clause-held
returns-clause-held g c =
    let xs = c.args.slots.now in
    let n = c.args.len in
    let e = c.args.entry in
    let long : length c.rise.new.heap ≡ n + 1 = grind (arith, common_steps) in
    let front = IsPermutation-sym _ _ (IsPermutation-to_front (take n xs) e) in
    rw (take_at c.rise.new.heap (drop (n + 1) (set xs n e)) (n + 1) long)
    (IsPermutation-trans _ _ _ front (rw (take_more_set xs n e c.requires.room) at c.rise.ensures.shuffled))

pub returns-clause-spare : goal.returns-clause-spare
returns-clause-spare g c =
    let xs = c.args.slots.now in
    let n = c.args.len in
    let e = c.args.entry in
    let long : length c.rise.new.heap ≡ n + 1 = grind (arith, common_steps) in
    drop-append-drop (n + 1) (set xs n e) c.rise.new.heap (n + 1) (omega arith) long
    ∙ drop-set-lt (n + 1) xs n e (omega arith) ∙ sym (drop-drop 1 n xs)
