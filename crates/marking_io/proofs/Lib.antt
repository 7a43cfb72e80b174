-- Laws that belong to no one function.
pub mod Behind
pub mod Lines
pub mod Calls
