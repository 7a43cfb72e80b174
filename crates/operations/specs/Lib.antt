-- The definitions that the contracts of the operations cite.
pub mod Operations
