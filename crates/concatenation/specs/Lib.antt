-- The definitions that the contracts of the concatenation cite.
pub mod Opened
