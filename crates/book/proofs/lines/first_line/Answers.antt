-- The first line goes up to the first byte 10, or is the whole text.
use Rattle.std.proofs.Common.{arith, rules}
use native.Mathlib.Nat.{sub-zero}
use Rattle.std.proofs.lemmas.List.{take_rest}
use Rattle.book.proofs.Texts.{line_before, line_whole}
use Rattle.book.proofs.lines.first_line.Goals as goal

pub returns-then-end-text-clause-cases : goal.returns-then-end-text-clause-cases
returns-then-end-text-clause-cases c =
    let end = c.line_end-end in
    let inside = c.if-end-text.true in
    simp (take_rest, sub-zero) (line_before c.args.text.now end.result inside end.ensures.before (end.ensures.found inside))

pub returns-else-end-text-clause-cases : goal.returns-else-end-text-clause-cases
returns-else-end-text-clause-cases c =
    line_whole c.args.text.now (search rules) (λ k h. c.line_end-end.ensures.before k (omega arith))
