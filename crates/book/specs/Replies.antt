-- How an answer is written: the bytes that a program prints for it, without the byte 10 that ends the
-- line. Numbers are written in decimal, with no zeros in front.
--
--   reply_text r          the bytes of the answer r
--   drawn_text d          the bytes of the first line of a draw
--   mark_text m           the bytes of the mark m of a draw
use Rattle.std.specs.Prelude.{ℕ, List, ◌++◌, codes, decimal}
use Rattle.book.specs.declared.reply.Reply.{Reply}
use Rattle.book.specs.declared.reply.Reply.TheVariants.{Done, Grade, Vacant, No}
use Rattle.book.specs.declared.reply.DrawnLine.{DrawnLine}
use Rattle.book.specs.declared.reply.MarkLine.{MarkLine}

abbrev pub reply_text : Reply → List ℕ
reply_text Done = codes "ok"
reply_text (Grade grade) = codes "grade " ++ decimal grade
reply_text Vacant = codes "vacant"
reply_text (No number) = codes "no " ++ decimal number

abbrev pub drawn_text : DrawnLine → List ℕ
drawn_text d = codes "drawn " ++ (decimal d.listed ++ (codes " opened " ++ decimal d.opened))

abbrev pub mark_text : MarkLine → List ℕ
mark_text m = decimal m.row ++ (codes " " ++ (decimal m.col ++ (codes " " ++ decimal m.grade)))
