pub mod RenewedLaws
pub mod BuiltLaws
pub mod StarLaws
