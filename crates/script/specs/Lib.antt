-- The definitions that the contracts of the reader cite.
pub mod Script
