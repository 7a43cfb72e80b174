-- Laws that belong to no one function.
pub mod BuiltLaws
pub mod ResultLaws
pub mod Passed
