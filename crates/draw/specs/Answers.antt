-- What a draw answers, and what stands in the list and in the queue afterwards.
--
--   Accepted      the best marks of the window stand in the first places of the list, the other places are as they were, and the
--                 count is right; the queue may hold anything
--   TurnedDown    the refusal is the first that fits, and nothing is changed
--   Answered      one of these, by the answer
use Rattle.std.specs.Prelude.{◌≡◌, ℕ, ◌≤◌, List, map, length, take, drop, Some, None, Ok, Err, Result}
use Rattle.grade.specs.Kind.{Kind}
use Rattle.treap.specs.Trees.{Meaning}
use Rattle.treap.specs.Draws.{Window, Draws, draw_refusal}
use Rattle.boxtree.specs.declared.mark.Mark.{Mark}
use Rattle.boxtree.specs.Marks.{spot_of}
use Rattle.draw.specs.declared.drawn.Drawn.{Drawn}
use Rattle.draw.specs.declared.entry.Entry.{Entry}
use Rattle.draw.specs.declared.refusal.DrawRefusal.{DrawRefusal}
use Rattle.draw.specs.Refusals.{refusal_number}

module _ {G : Type 0} (k : Kind) (code : G → ℕ) (m : Meaning) (w : Window) (queue queue' : List (Entry G)) (list list' : List (Mark G)) where
  pub record Accepted (d : Drawn) : Type 0 where
    pub allowed : draw_refusal w (length list) (length queue) m.ceiling ≡ None
    pub draws : Draws k m.square m.tree w (length list) (map (spot_of code) (take d.listed list')) d.opened
    pub within : d.listed ≤ length list
    pub size : length list' ≡ length list
    pub rest : drop d.listed list' ≡ drop d.listed list

  pub record TurnedDown (e : DrawRefusal) : Type 0 where
    pub why : draw_refusal w (length list) (length queue) m.ceiling ≡ Some (refusal_number e)
    pub same_list : list' ≡ list
    pub same_queue : queue' ≡ queue

  abbrev pub Answered : Result Drawn DrawRefusal → Type 0
  Answered (Ok d) = Accepted d
  Answered (Err e) = TurnedDown e
