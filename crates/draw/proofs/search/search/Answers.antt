use Rattle.std.proofs.Common.{length, sym, refl, ◌∙◌, arith, eqb-true}
use borrow.Author.Tests.{eqb-false}
use Rattle.queue.specs.Waiting.{room}
use Rattle.draw.proofs.Running.{begins, turn, top_part, top_fits, list_size, list_filled, list_rest, fills, lighter, runs_on, empty}
use Rattle.draw.proofs.Opening.{opened}
use Rattle.draw.proofs.search.search.Goals as goal

pub loop-top-init : goal.loop-top-init
loop-top-init g c = record {
  room = refl;
  size = refl;
  left = c.requires.places;
  rest = refl;
  running =
      begins g.T.G.Grade.coded c.root.ensures.lawful c.args.view.now.window c.requires.places c.root.result c.args.waiting.now.held c.put.new.waiting.held c.args.list.now
      c.root.ensures.looked c.requires.empty c.put.ensures.held;
}

pub returns-clause-draws : goal.returns-clause-draws
returns-clause-draws g c = empty g.met.T.G.Grade.laws c.root.ensures.lawful c.requires.places c.loop-top.invariant.running c.in_default.ensures.held.0

pub open-requires-clause-part : goal.open-requires-clause-part
open-requires-clause-part g c =
    let i = c.loop-top.invariant in
    top_part g.met.T.G.Grade.laws c.root.ensures.lawful (turn c.in-Some.ensures.held i.size i.left i.running)

pub open-requires-clause-place : goal.open-requires-clause-place
open-requires-clause-place g c =
    let i = c.loop-top.invariant in
    let fits = c.requires.room in
    let r0 = c.put.ensures.room in
    let r1 = i.room in
    let r2 = c.in-Some.ensures.room in
    top_fits g.met.T.G.Grade.laws c.root.ensures.lawful (turn c.in-Some.ensures.held i.size i.left i.running) (room c.pop.new.self) (omega arith)

pub loop-top-smaller : goal.loop-top-smaller
loop-top-smaller g c =
    let i = c.loop-top.invariant in
    lighter g.met.T.G.Grade.laws c.root.ensures.lawful (turn c.in-Some.ensures.held i.size i.left i.running) c.enlist-listed.new.list c.enlist-listed.result
    c.enlist-listed.ensures c.open.new.waiting.held (opened c.open.ensures.held)

pub loop-top-preserved : goal.loop-top-preserved
loop-top-preserved g c =
    let i = c.loop-top.invariant in
    let L = g.met.T.G.Grade.laws in
    let h = c.root.ensures.lawful in
    let t = turn c.in-Some.ensures.held i.size i.left i.running in
    let list' = c.enlist-listed.new.list in
    let listed' = c.enlist-listed.result in
    let e = c.enlist-listed.ensures in
    record {
      room = c.open.ensures.room ∙ c.in-Some.ensures.room ∙ i.room;
      size = list_size L h t list' listed' e;
      left = omega (arith, list_size L h t list' listed' e, list_filled L h t list' listed' e, eqb-false listed' (length list') (sym c.full.ensures ∙ c.if-full.false));
      rest = list_rest L h t list' listed' e c.args.list.now i.rest;
      running = runs_on L h t list' listed' e c.open.new.waiting.held (opened c.open.ensures.held);
    }

pub returns-then-full-clause-draws : goal.returns-then-full-clause-draws
returns-then-full-clause-draws g c =
    let i = c.loop-top.invariant in
    let L = g.met.T.G.Grade.laws in
    let h = c.root.ensures.lawful in
    let t = turn c.in-Some.ensures.held i.size i.left i.running in
    let list' = c.enlist-listed.new.list in
    let listed' = c.enlist-listed.result in
    let e = c.enlist-listed.ensures in
    fills L h t list' listed' e c.requires.places
    (omega (arith, list_size L h t list' listed' e, eqb-true listed' (length list') (sym c.full.ensures ∙ c.if-full.true)))
