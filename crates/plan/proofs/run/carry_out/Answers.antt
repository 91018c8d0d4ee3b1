use Rattle.std.proofs.Common.{◌≡◌, ◌<◌, min, length, ◌∙◌, arith}
use Rattle.std.proofs.lemmas.List.{set-get_or}
use Rattle.plan.specs.Plans.{ledger}
use Rattle.plan.proofs.Running.{none_at, one_more_call, ran_all}
use Rattle.plan.proofs.run.carry_out.Goals.{else-loop-i-test, then-loop-i-test+in_default}
use Rattle.plan.proofs.run.carry_out.Goals as goal

pub loop-i-preserved : goal.loop-i-preserved
loop-i-preserved g c =
    let high : c.loop-i.i < length c.loop-i.answers = omega (arith, c.loop-i-test.true, c.loop-i.auto.answers) in
    one_more_call g.G.Grade.coded (ledger g.G.Grade.coded c.args.plan.now) c.args.calls.now c.args.answers.now
    c.loop-i.i c.loop-i.plan c.call.new.self c.loop-i.answers c.in-Some.call c.call.result
    c.loop-i.invariant c.in-Some.ensures high c.call.ensures.answered c.call.ensures.followed

pub returns-clause-ran : goal.returns-clause-ran
returns-clause-ran g c =
    let end : c.loop-i.i ≡ min (length c.args.calls.now) (length c.args.answers.now) =
    elim c.loop-i-test.branch [
      | else-loop-i-test w ↦ omega (arith, w.loop-i-test.false, c.loop-i.invariant.within, c.loop-i.auto.i-end)
      | then-loop-i-test+in_default w ↦ omega (arith, w.loop-i-test.true, c.loop-i.invariant.within, none_at c.args.calls.now c.loop-i.i w.in_default.ensures)
    ] in
    let same : c.loop-i-test.answers ≡ c.loop-i.answers =
    elim c.loop-i-test.branch [ else-loop-i-test w ↦ w.answers-is | then-loop-i-test+in_default w ↦ w.answers-is ∙ set-get_or _ _ _ ] in
    rw same (ran_all g.G.Grade.coded (ledger g.G.Grade.coded c.args.plan.now) c.args.calls.now c.args.answers.now g.met.G.Grade.laws c.loop-i.i c.loop-i.plan c.loop-i.answers c.boxes.ensures.sound end c.loop-i.invariant)
