-- The number so far is what the digits so far write, and has no more digits than these.
use Rattle.std.proofs.Common.{◌≡◌, ◌^◌, ◌<◌, take}
use Rattle.book.specs.Grammar.{value}
use Rattle.book.proofs.grammar.decimal.Given as goal

abbrev pub invariant-loop-digit : goal.invariant-loop-digit
invariant-loop-digit l = (l.number ≡ value (take l.digit-index l.digits)) × (l.number < 10 ^ l.digit-index)
