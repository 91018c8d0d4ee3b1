-- Why a session turns a line down, by number.
--
--   refusal_number e   the number of the refusal
--   reply_to r         what is answered: the reply, or the number of the refusal
--   drawn_or r         the first line of a draw, or the number of the refusal
use Rattle.std.specs.Prelude.{ℕ, Ok, Err, Result}
use Rattle.book.specs.declared.reply.DrawnLine.{DrawnLine}
use Rattle.book.specs.declared.reply.Reply.{Reply}
use Rattle.book.specs.declared.reply.Reply.TheVariants.{No}
use Rattle.book.specs.Refusals as book
use Rattle.plan.specs.Refusals as plan
use Rattle.draw.specs.Refusals as draw
use Rattle.session.specs.declared.refusal.Refused.{Refused}
use Rattle.session.specs.declared.refusal.Refused.TheVariants.{Line, Plan, Draw}

abbrev pub refusal_number : Refused → ℕ
refusal_number (Line e) = book.refusal_number e
refusal_number (Plan e) = plan.refusal_number e
refusal_number (Draw e) = draw.refusal_number e

abbrev pub reply_to : Result Reply Refused → Reply
reply_to (Ok r) = r
reply_to (Err e) = No (refusal_number e)

abbrev pub drawn_or : Result DrawnLine Refused → Result DrawnLine Reply
drawn_or (Ok d) = Ok d
drawn_or (Err e) = Err (No (refusal_number e))
