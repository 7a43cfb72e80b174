-- The definitions that the contracts on folding cite.
pub mod Folding
