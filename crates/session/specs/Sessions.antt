-- What a session answers: a plan of points that is opened, changed and looked at line by line.
--
--   Desk              whether a plan was opened yet, and its ledger
--   replied d c       the answer to the command c
--   followed d c      the desk after the command c
--   Answers d line r e
--                     the line is answered by r, and leaves the desk e
--   Unchanged s t r   the session t is s, where the answer r is a refusal
use Rattle.std.specs.Prelude.{◌≡◌, ℕ, Bool, true, cond, List, Some, None, Option}
use Rattle.treap.specs.Spots.{Spot}
use Rattle.treap.specs.Ledgers as ledgers
use Rattle.plan.specs.Plans.{ledger}
use Rattle.book.specs.Grammar.{Says}
use Rattle.book.specs.declared.command.Command.{Command}
use Rattle.book.specs.declared.command.Command.TheVariants.{New, Enter, Regrade, Strike, Look, Draw}
use Rattle.book.specs.declared.reply.Reply.{Reply}
use Rattle.book.specs.declared.reply.Reply.TheVariants.{Done, Grade, Vacant, No}
use Rattle.session.specs.declared.session.Session.{Session}

pub record Desk : Type 0 where
  pub started : Bool
  pub ledger : ledgers.Ledger

-- the desk of a session
abbrev pub desk : Session → Desk
desk s = record { started = s.started; ledger = ledger (λ p. p.value) s.plan }

abbrev pub mark_at : ℕ → ℕ → ℕ → Spot
mark_at row col grade = record { row = row; col = col; grade = grade }

-- the answer of the plan, as it is told
abbrev pub reply_of : ledgers.Answer → Reply
reply_of ledgers.done = Done
reply_of (ledgers.graded g) = Grade g
reply_of ledgers.vacant = Vacant
reply_of (ledgers.refused n) = No n

-- a mark that is struck is told without its grade
abbrev pub struck_reply : ledgers.Answer → Reply
struck_reply ledgers.done = Done
struck_reply (ledgers.graded g) = Done
struck_reply ledgers.vacant = Done
struck_reply (ledgers.refused n) = No n

abbrev pub opened_reply : Option ℕ → Reply
opened_reply None = Done
opened_reply (Some n) = No n

-- before the first plan is opened a command on it is refused
abbrev pub replied : Desk → Command → Reply
replied d (New h) = opened_reply (ledgers.open_refusal h d.ledger.places)
replied d (Enter row col grade) = cond d.started (reply_of (ledgers.answer d.ledger (ledgers.enter (mark_at row col grade)))) (No 24)
replied d (Regrade row col grade) = cond d.started (reply_of (ledgers.answer d.ledger (ledgers.regrade (mark_at row col grade)))) (No 24)
replied d (Strike row col) = cond d.started (struck_reply (ledgers.answer d.ledger (ledgers.strike row col))) (No 24)
replied d (Look row col) = cond d.started (reply_of (ledgers.answer d.ledger (ledgers.look row col))) (No 24)
replied d (Draw top left bottom right k) = No 24

-- the desk after a call on the plan
abbrev pub called : Desk → ledgers.Call → Desk
called d c = record { started = d.started; ledger = cond d.started (ledgers.next d.ledger c) d.ledger }

-- a refused opening keeps the plan
abbrev pub opened_desk : Desk → ℕ → Option ℕ → Desk
opened_desk d h None = record { started = true; ledger = ledgers.blank h d.ledger.places }
opened_desk d h (Some n) = d

abbrev pub followed : Desk → Command → Desk
followed d (New h) = opened_desk d h (ledgers.open_refusal h d.ledger.places)
followed d (Enter row col grade) = called d (ledgers.enter (mark_at row col grade))
followed d (Regrade row col grade) = called d (ledgers.regrade (mark_at row col grade))
followed d (Strike row col) = called d (ledgers.strike row col)
followed d (Look row col) = d
followed d (Draw top left bottom right k) = d

pub record Answers (d : Desk) (line : List ℕ) (r : Reply) (e : Desk) : Type 0 where
  pub usable : (c : Command) → Says line c → (r ≡ replied d c) × (e ≡ followed d c)
  pub unusable : ((c : Command) → Says line c → ⊥) → (r ≡ No 24) × (e ≡ d)

-- a refused line leaves the session as it was
abbrev pub Unchanged : Session → Session → Reply → Type 0
Unchanged s t Done = Unit {0}
Unchanged s t (Grade g) = Unit {0}
Unchanged s t Vacant = Unit {0}
Unchanged s t (No n) =
    (t.started ≡ s.started)
    × (t.plan.h ≡ s.plan.h)
    × (t.plan.count ≡ s.plan.count)
    × (t.plan.places ≡ s.plan.places)
