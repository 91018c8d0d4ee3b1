use Rattle.std.proofs.Common.{ap, arith}
use Rattle.boxtree.specs.Marks.{spot_of}
use Rattle.plan.specs.Places.{Cell}
use Rattle.plan.proofs.Striking.{at_root, take_answers, take_last, move_asks, take_moved}
use Rattle.plan.proofs.change.take.Goals as goal

pub lift-freed-requires-clause-stands : goal.lift-freed-requires-clause-stands
lift-freed-requires-clause-stands g c = at_root c.requires.shape (spot_of g.G.Grade.coded c.args.mark) c.requires.shown c.whole-square.ensures

pub returns-then-freed-last-clause-answered : goal.returns-then-freed-last-clause-answered
returns-then-freed-last-clause-answered g c = take_answers c.requires.shape (spot_of g.G.Grade.coded c.args.mark) c.requires.shown

pub returns-then-freed-last-clause-done : goal.returns-then-freed-last-clause-done
returns-then-freed-last-clause-done g c =
    take_last c.requires.shape (spot_of g.G.Grade.coded c.args.mark) c.requires.shown c.whole-square.ensures c.lift-freed.new.places (omega (arith, c.lift-freed.auto.places)) c.lift-freed.ensures c.if-freed-last.true

pub relocate-requires : goal.relocate-requires
relocate-requires g c =
    move_asks c.requires.shape (spot_of g.G.Grade.coded c.args.mark) c.requires.shown c.whole-square.ensures c.lift-freed.new.places (omega (arith, c.lift-freed.auto.places)) c.lift-freed.ensures c.if-freed-last.false
    (spot_of g.G.Grade.coded c.read-moved.result.mark) (ap (λ (x : Cell). x.mark) c.read-moved.ensures)

pub returns-clause-answered : goal.returns-clause-answered
returns-clause-answered g c = take_answers c.requires.shape (spot_of g.G.Grade.coded c.args.mark) c.requires.shown

pub returns-clause-done : goal.returns-clause-done
returns-clause-done g c =
    take_moved c.requires.shape (spot_of g.G.Grade.coded c.args.mark) c.requires.shown c.whole-square.ensures c.lift-freed.new.places (omega (arith, c.lift-freed.auto.places)) c.lift-freed.ensures c.if-freed-last.false
    c.relocate.new.places (omega (arith, c.relocate.auto.places)) c.relocate.ensures
