-- The definitions that the contracts of the minimal service cite.
pub mod Minimal
