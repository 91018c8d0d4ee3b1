pub mod Refusals
pub mod Ranked
pub mod Scenes
pub mod Nodes
pub mod Opened
pub mod Answers
pub mod Orders
