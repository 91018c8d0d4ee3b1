pub mod Marks
pub mod Squares
pub mod Quadrants
pub mod Refusals
pub mod Answers
