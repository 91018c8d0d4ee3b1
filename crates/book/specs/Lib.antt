-- The definitions that the contracts of `book` cite.
pub mod Grammar
pub mod Lines
pub mod Refusals
pub mod Replies
