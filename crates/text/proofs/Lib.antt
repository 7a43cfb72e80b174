-- Laws that belong to no one function.
pub mod Runs
pub mod Decimal
pub mod Words
