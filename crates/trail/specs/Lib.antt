-- The definitions that the contracts on a trail cite.
pub mod Trail
