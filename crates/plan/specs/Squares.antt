-- Squares of a plan.
--
--   Fits s   the square lies within the largest plan
use Rattle.std.specs.Prelude.{◌+◌, ◌^◌, ◌≤◌}
use Rattle.treap.specs.Trees as tree

pub record Fits (s : tree.Square) : Type 0 where
  pub level : s.level ≤ 10
  pub rows : s.top + 2 ^ s.level ≤ 1024
  pub cols : s.left + 2 ^ s.level ≤ 1024
