-- A draw of too many marks is refused.
use Rattle.std.proofs.Common.{arith}
use Rattle.book.proofs.Commands.{too_many}
use Rattle.book.proofs.grammar.command.Goals as goal

pub returns-then-k-gt-MOST_DRAWN : goal.returns-then-k-gt-MOST_DRAWN
returns-then-k-gt-MOST_DRAWN c = too_many c.args.letter c.args.rest.now _ _ _ _ _ (omega arith) c.in_ok-top-in-D.ensures (omega arith)
