-- The definitions that the contracts of the elimination cite.
pub mod Echelon
pub mod Place
