use Rattle.std.proofs.Common.{refl}
use Rattle.treap.proofs.worked_examples.Goals as goal

pub returns : goal.returns
returns c =
    record {
      plan =
          record {
            in_level_order = refl;
            entered = refl;
            listed = refl;
            planted = refl;
            struck = refl;
            then_ordered = refl;
            off_plan = refl;
            taken = refl;
            vacant = refl;
            full = refl;
          };
      monuments =
          record { first = refl; second = refl; step = refl; to_second = refl; to_itself = refl; to_none = refl };
    }
