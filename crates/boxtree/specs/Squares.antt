-- Squares and windows of the code as the theory has them.
--
--   square_of s, window_of w   the square, the window
--   Divided s                  the square has quadrants, and nothing of it is past the last row and column of the grid, 65,535
use Rattle.std.specs.Prelude.{◌+◌, ◌^◌, ◌<◌, ◌≤◌}
use Rattle.treap.specs.Trees as tree
use Rattle.treap.specs.Draws as draw
use Rattle.boxtree.specs.declared.square.Square.{Square}
use Rattle.boxtree.specs.declared.window.Window.{Window}

abbrev pub square_of : Square → tree.Square
square_of s = record { level = s.level; top = s.top; left = s.left }

abbrev pub window_of : Window → draw.Window
window_of w = record { top = w.top; left = w.left; bottom = w.bottom; right = w.right }

pub record Divided (s : tree.Square) : Type 0 where
  pub deep : 0 < s.level
  pub rows : s.top + 2 ^ s.level ≤ 65536
  pub cols : s.left + 2 ^ s.level ≤ 65536
