-- The draws from the trial plan: its tree with numbers is lawful, and the lists and the counts compute.
use Rattle.std.proofs.Common.{◌≡◌, ℕ, ◌<◌, true, refl, arith, lit≤}
use Rattle.std.proofs.lemmas.Bool.Decides.{nat_tests}
use Rattle.grade.specs.Kind.{Laws}
use Rattle.grade.specs.Kinds.{points}
use Rattle.treap.specs.Spots.{Spot, Outranks}
use Rattle.treap.specs.Trees.{Square, Holds, Ordered, Apart, Lone, numbers}
use Rattle.treap.specs.Plants.{outranks, in_square}
use Rattle.treap.specs.Entries.{plan_square}
use Rattle.treap.specs.Draws.{Window, Draws}
use Rattle.treap.specs.Worked.{window, trial_boxes, TrialDraws}
use Rattle.treap.proofs.Ranks.{decides_outranks}
use Rattle.treap.proofs.Plants.{decides_in_square}
use Rattle.treap.proofs.Counted.{tally, best_seen, best_seen_draws}

points_laws : Laws points
points_laws = record {
  numbered = (lit≤ tt, lit≤ tt);
  small = λ a h. grind (arith, nat_tests);
  total = λ a b. grind (arith, nat_tests);
  anti = λ a b h l. grind (arith, nat_tests);
  trans = λ a b c h l. grind (arith, nat_tests);
  steps = λ p g. grind (arith, nat_tests);
  short = λ p g s h l e. grind (arith, nat_tests);
  undone = λ p g s h l e. grind (arith, nat_tests);
  undoes = λ p g s h e. (grind (arith, nat_tests), grind (arith, nat_tests));
}

-- by tests

over : (m n : Spot) → outranks points m n ≡ true → Outranks points m n
over m n e = (decides_outranks points m n).0 e

holds : (s : Square) (m : Spot) → points.is_code m.grade ≡ true → in_square s m ≡ true → Holds points s m
holds s m f e = record { fair = f; inside = (decides_in_square s m).0 e }

boxes_ordered : Ordered points (plan_square 2) trial_boxes
boxes_ordered = (
  holds _ _ refl refl,
  ((lit≤ tt, over _ _ refl), tt, (lit≤ tt, over _ _ refl), (lit≤ tt, over _ _ refl)),
  (
    (
      holds _ _ refl refl,
      (tt, tt, tt, (lit≤ tt, over _ _ refl)),
      (tt, tt, tt, (holds _ _ refl refl, (tt, tt, tt, tt), (tt, tt, tt, tt))),
    ),
    tt,
    (holds _ _ refl refl, (tt, tt, tt, tt), (tt, tt, tt, tt)),
    (holds _ _ refl refl, (tt, tt, tt, tt), (tt, tt, tt, tt)),
  ),
)

boxes_apart : Apart (numbers trial_boxes)
boxes_apart = (λ h. grind arith, (λ h. grind arith, (λ h. grind arith, (λ h. grind arith, (λ h. h, tt)))))

boxes_lone : Lone trial_boxes
boxes_lone x y v u er ec = grind arith

-- the best marks of the window, and as many boxes as are wanted, answer a draw
drawn : (w : Window) (n : ℕ) → 0 < n → let l = best_seen points trial_boxes w n in Draws points (plan_square 2) trial_boxes w n l (tally points w n l (plan_square 2) trial_boxes)
drawn w n pos = best_seen_draws points points_laws (plan_square 2) trial_boxes boxes_ordered boxes_apart w n pos boxes_lone

pub trial_draws : TrialDraws
trial_draws =
    record {
      numbered = refl;
      two = drawn (window 0 0 3 3) 2 (lit≤ tt);
      three = drawn (window 0 0 3 3) 3 (lit≤ tt);
      window_one = drawn (window 1 1 1 2) 1 (lit≤ tt);
      window_two = drawn (window 1 1 1 2) 2 (lit≤ tt);
    }
