pub mod OperationLaws
pub mod BuiltLaws
