-- Laws that belong to no one function.
pub mod Bytes
pub mod Stores
pub mod RowList
pub mod Refusals
pub mod Numbers
pub mod Encode
pub mod Letters
pub mod Held
pub mod Outcome
pub mod Claims
