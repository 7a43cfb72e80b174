pub mod Unary
pub mod PowerLaws
pub mod TryLaws
