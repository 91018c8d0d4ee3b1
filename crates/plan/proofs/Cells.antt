-- Places that are read and written, as the theory has them.
use Rattle.std.proofs.Common.{◌≡◌, ℕ, ◌<◌, List, map, length, set, get_or-set_other, get_or-set_same}
use lib.ListN.{length-map}
use lib.Seq.{map-set}
use Rattle.plan.specs.declared.place.Place.{Place}
use Rattle.plan.specs.Places.{cell_of, cells}

module _ {G : Type 0} (code : G → ℕ) where
  pub cell_written : (ps : List (Place G)) (i : ℕ) (p : Place G) → i < length ps → cells code (set ps i p) i ≡ cell_of code p
  cell_written ps i p h = let k : i < length (map (cell_of code) ps) = rw length-map h in rw map-set (get_or-set_same _ i _ _ k)

  pub cell_kept : (ps : List (Place G)) (i n : ℕ) (p : Place G) → (n ≡ i → ⊥) → cells code (set ps i p) n ≡ cells code ps n
  cell_kept ps i n p h = rw map-set (get_or-set_other (map (cell_of code) ps) i n (cell_of code p) _ h)
