use Rattle.std.proofs.Common.{◌-◌, Ok, sym, refl, ap, ◌∙◌, arith}
use Rattle.std.specs.Result.{is_ok}
use Rattle.boxtree.specs.Squares.{window_of}
use Rattle.session.proofs.FirstPlaces.{drew_in}
use Rattle.session.proofs.session.Session.drawn.Goals as goal

pub returns : goal.returns
returns c =
    drew_in c.args.queue.now c.draw.new.queue c.args.list.now c.draw.new.list c.args.self.now (window_of c.args.window) c.args.k (c.from-asked.result - 0)
    (omega (arith, c.from-asked.ensures)) (omega (arith, c.if-asked-list.false)) (Ok c.in_ok-drawn.drawn) (Ok (record { listed = c.in_ok-drawn.drawn.listed; opened = c.in_ok-drawn.drawn.opened })) refl c.in_ok-drawn.ensures
    (sym c.check_started.ensures ∙ ap is_ok c.in_ok-check_started.was)
