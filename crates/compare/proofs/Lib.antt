-- Laws that belong to no one function.
pub mod CompareLaws
pub mod Claims
