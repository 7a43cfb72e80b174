-- The definitions that the contracts on two records cite.
pub mod Meant
pub mod Operands
