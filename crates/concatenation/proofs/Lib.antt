pub mod OpenedLaws
pub mod BuiltLaws
