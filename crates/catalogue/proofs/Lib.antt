-- Laws that belong to no one function.
pub mod Table
pub mod Words
pub mod Minimal
pub mod Records
pub mod Columns
pub mod Giving
