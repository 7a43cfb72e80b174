pub mod LinkLaws
pub mod TraceLaws
