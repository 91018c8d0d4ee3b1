pub mod Rankings
mod Moves
