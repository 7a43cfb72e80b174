-- The definitions that the contracts of the direct sum cite.
pub mod Filled
