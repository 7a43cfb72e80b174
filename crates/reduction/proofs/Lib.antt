pub mod SearchLaws
pub mod Complete
pub mod TableSearch
