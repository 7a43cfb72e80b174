-- Laws that belong to no one function.
pub mod Granted
pub mod Compared
pub mod Operations
pub mod NoNine
