pub mod EchelonLaws
pub mod FoldLaws
pub mod PlaceLaws
