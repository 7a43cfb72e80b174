pub mod FlipLaws
pub mod SwapLaws
pub mod BlockLaws
pub mod StageLaws
pub mod TurnLaws
pub mod CopyLaws
