-- Laws that belong to no one function.
pub mod Cases
pub mod Verdicts
pub mod Refusals
pub mod ToldLaws
pub mod EndToEnd
pub mod Bound
