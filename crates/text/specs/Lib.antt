-- The definitions that the contracts of the writers cite.
pub mod Text
