-- A draw in the first places of the list, as the session tells it.
use Rattle.std.proofs.Common.{◌≡◌, ℕ, ◌≤◌, Bool, true, false, ◌&&◌, leb, List, ◌++◌, length, take, drop, Ok, Err, MatchBool, Result, sym, ap, ◌∙◌, subst, arith}
use Rattle.std.proofs.lemmas.List.{length-append, length-drop, length-take-le, take_at}
use Rattle.std.proofs.lemmas.Slice.{drop-append-drop}
use Rattle.std.proofs.lemmas.Bool.{le-leb}
use Rattle.grade.specs.Kinds.{points}
use Rattle.grade.specs.declared.points.Points.{Points}
use Rattle.treap.specs.Draws.{Window}
use Rattle.boxtree.specs.declared.mark.Mark.{Mark}
use Rattle.draw.specs.declared.drawn.Drawn.{Drawn}
use Rattle.draw.specs.declared.entry.Entry.{Entry}
use Rattle.draw.specs.declared.refusal.DrawRefusal.{DrawRefusal}
use Rattle.draw.specs.Answers.{Answered}
use Rattle.plan.specs.Plans.{shown}
use Rattle.book.specs.declared.reply.DrawnLine.{DrawnLine}
use Rattle.book.specs.declared.reply.Reply.{Reply}
use Rattle.book.specs.declared.reply.Reply.TheVariants.{No}
use Rattle.session.specs.declared.session.Session.{Session}
use Rattle.session.specs.Replies.{draw_reply, DrawnIn, Drew, Said}

both : (a b : Bool) → a ≡ true → b ≡ true → (a && b) ≡ true
both true b e f = f
both false b e f = e

module _ (queue queue' : List (Entry Points)) (list ys : List (Mark Points)) (s : Session) (w : Window) (k : ℕ) (fits : k ≤ length list) where
  -- a draw leaves as many places as it finds
  as_long : (result : Result Drawn DrawRefusal)
      → Answered points (λ p. p.value) (shown (λ p. p.value) s.plan) w queue queue' (take k list) ys result
      → length ys ≡ k
  as_long (Ok d) a = a.size ∙ length-take-le k list fits
  as_long (Err e) a = ap length a.same_list ∙ length-take-le k list fits

  module _ (result : Result Drawn DrawRefusal) (r : Result DrawnLine Reply) (told : r ≡ draw_reply result) (a : Answered points (λ p. p.value) (shown (λ p. p.value) s.plan) w queue queue' (take k list) ys result) where
    first_places : take k (ys ++ drop k list) ≡ ys
    first_places = take_at ys (drop k list) k (as_long result a)

    drawn_in : DrawnIn queue queue' list (ys ++ drop k list) s w k r
    drawn_in =
        record {
          result = result;
          told = told;
          answered =
              subst (λ (l : List (Mark Points)). Answered points (λ p. p.value) (shown (λ p. p.value) s.plan) w queue queue' (take k list) l result)
              (sym first_places) a;
          size = omega (arith, length-append ys (drop k list), length-drop k list, as_long result a);
          beyond = drop-append-drop k list ys k (omega arith) (as_long result a);
        }

    drew : s.started ≡ true → Drew queue queue' list (ys ++ drop k list) s w k r
    drew started =
        subst (λ (b : Bool). MatchBool b (DrawnIn queue queue' list (ys ++ drop k list) s w k r) (Said queue queue' list (ys ++ drop k list) (No 24) r))
        (sym (both s.started (leb k (length list)) started (le-leb k (length list) fits))) drawn_in

-- the same, where the number of places is worked out
pub drew_in : (queue queue' : List (Entry Points)) (list ys : List (Mark Points)) (s : Session) (w : Window) (k m : ℕ)
    → m ≡ k
    → m ≤ length list
    → (result : Result Drawn DrawRefusal) (r : Result DrawnLine Reply)
    → r ≡ draw_reply result
    → Answered points (λ p. p.value) (shown (λ p. p.value) s.plan) w queue queue' (take m list) ys result
    → s.started ≡ true
    → Drew queue queue' list (ys ++ drop m list) s w k r
drew_in queue queue' list ys s w k m e fits result r told a started =
    subst (λ (n : ℕ). Drew queue queue' list (ys ++ drop m list) s w n r) e (drew queue queue' list ys s w m fits result r told a started)
