-- What the contracts on the table of two records side by side cite.
pub mod Rows
