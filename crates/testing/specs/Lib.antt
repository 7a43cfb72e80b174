-- The definitions that the contracts of the test cite.
pub mod Testing
