-- The definitions that the contracts on a basis cite.
pub mod Basis
