pub mod TryLaws
pub mod PassLaws
