use Rattle.std.proofs.Common.{◌≡◌, ℕ, true, subst, arith}
use Rattle.boxtree.specs.Marks.{spot_of}
use Rattle.plan.proofs.Entering.{put_asks, put_does}
use Rattle.plan.proofs.change.put.Goals as goal

pub sink-requires : goal.sink-requires
sink-requires g c =
    put_asks c.requires.shape (spot_of g.G.Grade.coded c.args.mark) c.requires.on c.requires.vacant c.requires.room c.whole.ensures c.root.ensures
    (subst (λ (x : ℕ). g.G.Grade.kind.is_code x ≡ true) c.code.ensures.is c.code.ensures.lawful)

pub returns : goal.returns
returns g c =
    put_does c.requires.shape (spot_of g.G.Grade.coded c.args.mark) c.requires.on c.requires.vacant c.requires.room c.whole.ensures c.root.ensures
    c.sink.new.places (omega (arith, c.sink.auto.places)) c.sink.ensures
