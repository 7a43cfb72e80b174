-- The definitions that the contracts on products cite.
pub mod Lines
