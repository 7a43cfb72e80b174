-- The definitions that the contracts on transposition cite.
pub mod Exchange
pub mod Transposed
