-- The definitions that the contracts of `session` cite.
pub mod Refusals
pub mod Sessions
pub mod Replies
