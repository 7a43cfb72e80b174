pub mod ListedLaws
pub mod Rising
pub mod FoldLaws
pub mod ObservedLaws
pub mod Order
pub mod ExploreLaws
