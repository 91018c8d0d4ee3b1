-- The lemmas that the proofs of `book` share; those on texts serve the crates above too.
mod Numerals
mod Fields
mod Commands
pub mod Texts
