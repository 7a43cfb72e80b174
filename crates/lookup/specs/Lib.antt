-- The definitions that the contracts on lookup tables cite.
pub mod Lookup
