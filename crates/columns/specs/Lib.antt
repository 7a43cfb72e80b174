-- The definitions that the contracts on columns cite.
pub mod Columns
pub mod Laid
