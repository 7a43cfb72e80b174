-- Laws that belong to no one function.
pub mod Data
pub mod Names
pub mod Test
pub mod Meaning
pub mod Services
pub mod Samples
pub mod Blank
