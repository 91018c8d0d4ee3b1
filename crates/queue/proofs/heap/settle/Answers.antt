use Rattle.std.proofs.Common.{arith}
use Rattle.std.proofs.lemmas.Grind.{common_steps}
use Rattle.std.proofs.lemmas.List.Sorted.{IsPermutation-trans}
use Rattle.queue.proofs.Moves.{sinks}
use Rattle.queue.proofs.heap.settle.Goals as goal

pub loop-at-preserved : goal.loop-at-preserved
loop-at-preserved g c =
    let i = c.loop-at.invariant in
    let b = c.best_below-below.ensures in
    let s = c.swap.ensures in
    record {
      shuffled = IsPermutation-trans _ _ _ i.shuffled s.permutation;
      sinking =
          rw s.len (sinks g.met.E.Ranked.laws _ _ _ _ _ b.within.0 b.within.1 b.within.2 (λ d. grind (arith, common_steps)) s.by_index b.best i.sinking);
    }
