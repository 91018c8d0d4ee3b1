pub mod Kind
pub mod Kinds
pub mod Refusal
pub mod Laws
