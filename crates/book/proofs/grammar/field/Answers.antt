-- Where the digits after a space are too few, too many or too large, no field stands there.
use Rattle.std.proofs.Common.{arith, rules}
use Rattle.book.proofs.Fields.{after_space, no_field}
use Rattle.book.proofs.grammar.field.Goals as goal

pub returns-then-count-eq0 : goal.returns-then-count-eq0
returns-then-count-eq0 c =
    let text = c.args.text.now in
    let count = c.digits-count in
    no_field text _ count.result (after_space text (search rules) (search rules)) count.ensures.bound count.ensures.front count.ensures.rest
    (λ some few small. omega (arith, c.then-count-eq0.either))

pub returns-in_default-try_from : goal.returns-in_default-try_from
returns-in_default-try_from c =
    let text = c.args.text.now in
    let count = c.digits-count in
    no_field text _ count.result (after_space text (search rules) (search rules)) count.ensures.bound count.ensures.front count.ensures.rest
    (λ some few small. c.in_default-try_from.ensures (search rules))
