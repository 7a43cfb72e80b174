-- The definitions that the contracts on rows cite.
pub mod Row
pub mod Table
pub mod Product
pub mod Each
pub mod Beside
pub mod Machine
