use Rattle.std.proofs.Common.{arith}
use Rattle.std.proofs.lemmas.Grind.{common_steps}
use Rattle.std.proofs.lemmas.List.Sorted.{IsPermutation-trans}
use Rattle.queue.proofs.Moves.{rises}
use Rattle.queue.proofs.heap.rise.Goals as goal

pub loop-at-preserved : goal.loop-at-preserved
loop-at-preserved g c =
    let i = c.loop-at.invariant in
    let s = c.swap.ensures in
    record {
      within = omega arith;
      shuffled = IsPermutation-trans _ _ _ i.shuffled s.permutation;
      rising = rw s.len (rises g.met.E.Ranked.laws _ _ _ _ (omega arith) i.within (λ d. grind (arith, common_steps)) s.by_index i.rising);
    }
