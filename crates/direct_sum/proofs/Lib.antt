pub mod Filling
pub mod Changing
pub mod SumLaws
