-- Which entry of a queue outranks which: they go by their marks.
use Rattle.std.specs.Prelude.{ℕ, Bool}
use Rattle.grade.specs.Kind.{Kind}
use Rattle.treap.specs.Plants.{outranks}
use Rattle.boxtree.specs.Marks.{spot_of}
use Rattle.draw.specs.declared.entry.Entry.{Entry}

abbrev pub ranked : {G : Type 0} → Kind → (G → ℕ) → Entry G → Entry G → Bool
ranked k code a b = outranks k (spot_of code a.mark) (spot_of code b.mark)
