-- A tree, and the window through which it is seen.
use Rattle.treap.specs.Draws.{Window}

pub record Scene (T : Type 0) : Type 0 where
  pub tree : T
  pub window : Window
