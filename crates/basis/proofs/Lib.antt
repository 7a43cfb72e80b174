pub mod BasisLaws
