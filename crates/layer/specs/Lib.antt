pub mod Refusals
pub mod Piles
