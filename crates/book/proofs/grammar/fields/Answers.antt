-- Reading field after field finds the numbers of a text, or shows that there are none.
use Rattle.std.proofs.Common.{arith, rules}
use Rattle.std.proofs.lemmas.Result.{MatchResult-from_err}
use Rattle.book.proofs.Fields.{front_more, back_more, back_stuck, front_all}
use Rattle.book.proofs.grammar.fields.Goals as goal

pub returns-in_err-value : goal.returns-in_err-value
returns-in_err-value g c =
    let at = c.loop-number in
    MatchResult-from_err c.from_residual.result _ _ c.from_residual.ensures.0
    (λ _. back_stuck c.args.text.now at.rest.now g.row.N at.number-index c.loop-number-test.true at.invariant.1 c.in_err-value.ensures)

pub loop-number-preserved : goal.loop-number-preserved
loop-number-preserved g c =
    let at = c.loop-number in
    let read = c.in_ok-value in (
      front_more c.args.text.now at.rest.now read.after.now at.number-items at.number-index read.value (omega arith) at.invariant.0 read.ensures,
      back_more c.args.text.now at.rest.now read.after.now g.row.N at.number-index read.value c.loop-number-test.true at.invariant.1 read.ensures,
      search rules,
    )

pub returns-then-is_empty : goal.returns-then-is_empty
returns-then-is_empty g c =
    let at = c.loop-number in
    front_all c.args.text.now at.rest.now at.number-items g.row.N at.number-index at.invariant.2 c.loop-number-test.false (search rules) at.invariant.0
