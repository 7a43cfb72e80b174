-- Laws that belong to no one function.
pub mod PairLaws
pub mod Numbers
pub mod MeantLaws
