pub mod Complete
pub mod JudgeLaws
pub mod LetterLaws
