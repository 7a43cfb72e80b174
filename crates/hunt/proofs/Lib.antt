pub mod BothLaws
pub mod HuntLaws
