-- The text after a line is shorter.
use Rattle.book.proofs.Texts.{rest_shorter}
use Rattle.plot.proofs.run.Goals as goal

pub loop-line-smaller : goal.loop-line-smaller
loop-line-smaller c = rest_shorter c.loop-line.rest.now c.in-Some.line.now c.in-Some.after.now c.in-Some.ensures.cases
