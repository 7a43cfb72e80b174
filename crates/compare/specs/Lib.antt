-- The definitions that the contracts of the comparison service cite.
pub mod Compare
