-- What a session answers to a draw.
--
--   draw_reply r      the answer of a draw, as it is told: its first line, or a refusal
--   Drew              a draw of k marks of the window w is answered by r: it is refused before the first plan is opened and where the
--                     list has fewer than k places; else the first k places of the list are drawn in
use Rattle.std.specs.Prelude.{◌≡◌, ℕ, ◌&&◌, List, length, take, drop, Ok, Err, MatchBool, Result, nat_le}
use Rattle.grade.specs.Kinds.{points}
use Rattle.grade.specs.declared.points.Points.{Points}
use Rattle.treap.specs.Draws.{Window}
use Rattle.boxtree.specs.declared.mark.Mark.{Mark}
use Rattle.draw.specs.declared.drawn.Drawn.{Drawn}
use Rattle.draw.specs.declared.entry.Entry.{Entry}
use Rattle.draw.specs.declared.refusal.DrawRefusal.{DrawRefusal}
use Rattle.draw.specs.Answers.{Answered}
use Rattle.draw.specs.Refusals.{refusal_number}
use Rattle.plan.specs.Plans.{shown}
use Rattle.book.specs.declared.reply.DrawnLine.{DrawnLine}
use Rattle.book.specs.declared.reply.Reply.{Reply}
use Rattle.book.specs.declared.reply.Reply.TheVariants.{No}
use Rattle.session.specs.declared.session.Session.{Session}

abbrev pub draw_reply : Result Drawn DrawRefusal → Result DrawnLine Reply
draw_reply (Ok d) = Ok (record { listed = d.listed; opened = d.opened })
draw_reply (Err e) = Err (No (refusal_number e))

-- with what the queue and the list hold before and after
module _ (queue queue' : List (Entry Points)) (list list' : List (Mark Points)) where
  -- nothing is written there
  pub record Untouched : Type 0 where
    pub queue_same : queue' ≡ queue
    pub list_same : list' ≡ list

  -- so it is answered, and nothing is written
  abbrev pub Said : Reply → Result DrawnLine Reply → Type 0
  Said answer r = (r ≡ Err answer) × Untouched

  -- the best marks of the window stand in the first k places of the list, as far as there are so many, and the rest is as it was
  pub record DrawnIn (s : Session) (w : Window) (k : ℕ) (r : Result DrawnLine Reply) : Type 0 where
    pub result : Result Drawn DrawRefusal
    pub told : r ≡ draw_reply result
    pub answered : Answered points (λ p. p.value) (shown (λ p. p.value) s.plan) w queue queue' (take k list) (take k list') result
    pub size : length list' ≡ length list
    pub beyond : drop k list' ≡ drop k list

  abbrev pub Drew : Session → Window → ℕ → Result DrawnLine Reply → Type 0
  Drew s w k r = MatchBool (s.started && nat_le k (length list)) (DrawnIn s w k r) (Said (No 24) r)
