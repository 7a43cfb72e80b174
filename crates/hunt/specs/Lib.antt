-- The definitions that the contracts of the search cite.
pub mod Both
pub mod Hunt
