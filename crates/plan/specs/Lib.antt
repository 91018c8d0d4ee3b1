pub mod Squares
pub mod Places
pub mod Standing
pub mod Children
pub mod Refusals
pub mod Plans
pub mod Boxes
pub mod Runs
