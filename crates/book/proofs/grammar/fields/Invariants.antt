-- While fields are read: those read so far stand before the rest, and the rest has those that are still wanted.
use Rattle.std.proofs.Common.{◌≡◌, length, take}
use Rattle.book.proofs.Fields.{Front, Back}
use Rattle.book.proofs.grammar.fields.Given as goal

abbrev pub invariant-loop-number : goal.invariant-loop-number
invariant-loop-number g l =
    Front l.text (take l.number-index l.number-items) l.rest
    × Back l.text g.row.N l.number-index l.rest
    × (length l.number-items ≡ g.row.N)
