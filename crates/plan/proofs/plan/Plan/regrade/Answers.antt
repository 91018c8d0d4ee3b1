use Rattle.std.proofs.Common.{◌∙◌}
use Rattle.boxtree.specs.Marks.{spot_of}
use Rattle.plan.specs.Plans.{ledger}
use Rattle.plan.proofs.Shapes.{marks_fit}
use Rattle.plan.proofs.Regrading.{unstruck_next, regraded_answer, regraded_next, regraded_kept}
use Rattle.plan.proofs.plan.Plan.regrade.Goals as goal

pub returns-in_err-strike-clause-followed : goal.returns-in_err-strike-clause-followed
returns-in_err-strike-clause-followed g c =
    unstruck_next (ledger g.G.Grade.coded c.args.self.now) (spot_of g.G.Grade.coded c.args.mark) _ c.in_err-strike.ensures.answered c.in_err-strike.ensures.followed

pub returns-clause-answered : goal.returns-clause-answered
returns-clause-answered g c =
    c.enter.ensures.answered
    ∙ regraded_answer (ledger g.G.Grade.coded c.args.self.now) (spot_of g.G.Grade.coded c.args.mark) (marks_fit c.boxes.ensures.sound) _ c.in_ok-strike.ensures.answered _ c.in_ok-strike.ensures.followed

pub returns-clause-followed : goal.returns-clause-followed
returns-clause-followed g c =
    c.enter.ensures.followed
    ∙ regraded_next (ledger g.G.Grade.coded c.args.self.now) (spot_of g.G.Grade.coded c.args.mark) (marks_fit c.boxes.ensures.sound) _ c.in_ok-strike.ensures.answered _ c.in_ok-strike.ensures.followed

pub returns-clause-kept : goal.returns-clause-kept
returns-clause-kept g c =
    regraded_kept (ledger g.G.Grade.coded c.args.self.now) (spot_of g.G.Grade.coded c.args.mark) (marks_fit c.boxes.ensures.sound) _ c.in_ok-strike.ensures.answered _ c.in_ok-strike.ensures.followed
    c.args.self.now c.enter.new.self c.enter.result c.enter.ensures.answered
