-- Proofs on the table of two records side by side.
pub mod RowsLaws
