-- The definitions that the contracts of the reduction cite.
pub mod Search
pub mod Tables
pub mod Before
