-- Each turn leaves less of the book.
use Rattle.std.proofs.Common.{length}
use Rattle.plot.proofs.run.Given as goal

abbrev pub decreases-loop-line : goal.decreases-loop-line
decreases-loop-line l = length l.rest
