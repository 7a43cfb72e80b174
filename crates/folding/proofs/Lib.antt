pub mod RowLaws
pub mod AutomatonLaws
